-- A condition's tokens take at most 65,535 bytes, and so does its data.
use Rattle.sd_condition.proofs.Cited.{Some, flat_map, length, refl, sym, token_bytes, ◌∙◌, ◌≡◌}
use Rattle.sd_condition.proofs.Lengths.{length_of_data, tokens_fit, tokens_known}
use Rattle.sd_data.proofs.Found.{some_is}
use Rattle.sd_condition.proofs.condition.Condition.data_len.Goals as goal
use Rattle.sd_condition.proofs.condition.Condition.data_len.Goals.{After-tokens_len, After-unwrap}

known : (c : After-tokens_len) → c.tokens_len.result ≡ Some (length (flat_map token_bytes c.args.self.now))
known c = tokens_known c.tokens.result.now c.args.self.now c.tokens_len.result c.tokens.ensures.tokens c.tokens.ensures.known c.tokens_len.ensures

counted : (c : After-unwrap) → c.unwrap.result ≡ length (flat_map token_bytes c.args.self.now)
counted c = some_is _ _ (sym c.unwrap.ensures ∙ tokens_known c.tokens.result.now c.args.self.now c.tokens_len.result c.tokens.ensures.tokens c.tokens.ensures.known c.tokens_len.ensures)

pub unwrap-requires : goal.unwrap-requires
unwrap-requires c = rw (known c) refl

pub padded_len-requires : goal.padded_len-requires
padded_len-requires c = rw (counted c) (tokens_fit c.args.self.now c.tokens.ensures.known).1

pub returns-clause-exact : goal.returns-clause-exact
returns-clause-exact c =
    c.padded_len.ensures ∙ rw (counted (goal.at.returns-clause-exact c).After-unwrap) (sym (length_of_data c.args.self.now))

pub returns-clause-most : goal.returns-clause-most
returns-clause-most c =
    let is = counted (goal.at.returns-clause-most c).After-unwrap in
    let fits = (tokens_fit c.args.self.now c.tokens.ensures.known).0 in
    rw (c.padded_len.ensures, is, ← length_of_data c.args.self.now) fits
