-- Where a sum is too large, so is the whole.
use Rattle.sd_condition.proofs.Cited.{ap, arith, flat_map, length, length-flat_map-take, sym, take_all, token_bytes, ◌∙◌, ◌≡◌}
use Rattle.sd_condition.proofs.token.tokens_len.Goals as goal

pub returns-in_err-total : goal.returns-in_err-total
returns-in_err-total c =
    let tokens = c.args.tokens.now in
    let item = c.token-item.result in
    let next = length-flat_map-take token_bytes tokens c.loop-token.token-index item c.loop-token-test.true in
    let this = ap (λ v. length (token_bytes v)) c.token-item.is in
    rw c.from_residual-in_err-total.ensures (λ fits. c.in_err-total.ensures (omega (arith, c.loop-token.invariant, c.in_ok-token_len.ensures.1)))

pub returns : goal.returns
returns c =
    let all = ap (λ vs. length (flat_map token_bytes vs)) (take_all c.loop-token.token-index c.args.tokens.now c.loop-token-test.false) in
    let same : c.loop-token.total ≡ length (flat_map token_bytes c.args.tokens.now) = c.loop-token.invariant.0 ∙ all in
    (rw (sym same) c.loop-token.invariant.1, same)

pub returns-in_err-token_len : goal.returns-in_err-token_len
returns-in_err-token_len c =
    let tokens = c.args.tokens.now in
    let item = c.token-item.result in
    let next = length-flat_map-take token_bytes tokens c.loop-token.token-index item c.loop-token-test.true in
    let this = ap (λ v. length (token_bytes v)) c.token-item.is in
    rw c.from_residual.ensures (λ fits. c.in_err-token_len.ensures (omega arith))
