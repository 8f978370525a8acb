-- Each turn reads the next token, or ends without one.
use Rattle.sd_condition.proofs.Cited.{err_from_is_err_and, not-false, not-true, padded_read, slice_index, sym, token_read, ◌==◌, ◌∙◌}
use Rattle.sd_condition.proofs.Loop.{bad_padding, bad_token, next_token, tokens_done}
use Rattle.sd_data.proofs.Loop.{refused}
use Rattle.sd_condition.proofs.condition.read_tokens.Goals as goal

pub returns-in_err-token-clause-err : goal.returns-in_err-token-clause-err
returns-in_err-token-clause-err c =
    let p = err_from_is_err_and c.from_residual.result c.from_residual.ensures.1 in
    let begins = not-true (slice_index c.tokens.rest.now 0 == 0) (sym c.begins_token.ensures ∙ c.tokens-test.true) in
    rw (p.1, p.2) (refused c.in_err-token.field-0.0 (token_read c.tokens.rest.now) (padded_read c.args.bytes.now) c.in_err-token.ensures.read
    (bad_token c.args.bytes.now c.tokens.rest.now c.tokens.tokens.items begins c.tokens.invariant))

pub tokens-preserved : goal.tokens-preserved
tokens-preserved c =
    let begins = not-true (slice_index c.tokens.rest.now 0 == 0) (sym c.begins_token.ensures ∙ c.tokens-test.true) in
    rw c.in_ok-push.ensures.items (next_token c.args.bytes.now c.tokens.rest.now c.tokens.tokens.items c.in_ok-token.token c.in_ok-token.size begins c.in_ok-token.ensures.size.0 c.in_ok-token.ensures.size.1 c.in_ok-token.ensures.read c.tokens.invariant)

pub returns-then-not-is_padding-clause-err : goal.returns-then-not-is_padding-clause-err
returns-then-not-is_padding-clause-err c =
    let ends = not-false (slice_index c.tokens.rest.now 0 == 0) (sym c.begins_token.ensures ∙ c.tokens-test.false) in
    bad_padding c.args.bytes.now c.tokens.rest.now c.tokens.tokens.items ends (sym c.is_padding.ensures ∙ c.if-not-is_padding.true) c.tokens.invariant

pub returns-clause-ok : goal.returns-clause-ok
returns-clause-ok c =
    let ends = not-false (slice_index c.tokens.rest.now 0 == 0) (sym c.begins_token.ensures ∙ c.tokens-test.false) in
    tokens_done c.args.bytes.now c.tokens.rest.now c.tokens.tokens.items ends (sym c.is_padding.ensures ∙ c.if-not-is_padding.false) c.tokens.invariant
