-- A claim's data has at most 65,535 bytes, and so has the claim before its padding.
use Rattle.sd_claim.proofs.Cited.{Some, arith, claim_len, refl, sym, ◌∙◌, ◌≡◌}
use Rattle.sd_claim.proofs.Lengths.{claim_fits, claim_known, length_of_data}
use Rattle.sd_data.proofs.Found.{some_is}
use Rattle.sd_claim.proofs.claim.Claim.data_len.Goals as goal
use Rattle.sd_claim.proofs.claim.Claim.data_len.Goals.{After-claim_len, After-padding_len}

known : (c : After-claim_len) → c.claim_len.result ≡ Some (claim_len c.args.self.now.name c.args.self.now.values)
known c = claim_known c.args.self.now c.name.result.now c.values.result.now c.claim_len.result c.name.ensures c.values.ensures.values c.values.ensures.known c.claim_len.ensures

counted : (c : After-padding_len) → c.unwrap-len.result ≡ claim_len c.args.self.now.name c.args.self.now.values
counted c =
    some_is _ _
    (sym c.unwrap-len.ensures ∙ claim_known c.args.self.now c.name.result.now c.values.result.now c.claim_len.result c.name.ensures c.values.ensures.values c.values.ensures.known c.claim_len.ensures)

pub unwrap-len-requires : goal.unwrap-len-requires
unwrap-len-requires c = rw (known c) refl

pub overflow_add-result : goal.overflow_add-result
overflow_add-result c =
    omega (arith, c.padding_len.ensures, counted c, (claim_fits c.args.self.now c.values.ensures.known).1)

pub returns-clause-exact : goal.returns-clause-exact
returns-clause-exact c = rw (c.padding_len.ensures, counted c) (sym (length_of_data c.args.self.now))

pub returns-clause-most : goal.returns-clause-most
returns-clause-most c =
    rw (c.padding_len.ensures, counted c, ← length_of_data c.args.self.now) (claim_fits c.args.self.now c.values.ensures.known).0
