use Rattle.std.proofs.Common.{arith, not, rules, tests, ℕ}
use Rattle.std.proofs.lemmas.Bool.Decides.{nat_tests}
use Rattle.std.proofs.lemmas.Iterator.{YieldsList-from_slice}
use Rattle.std.proofs.lemmas.Iterator.Search.{position_from_yields_List}
use Rattle.std.proofs.lemmas.List.Sums.{prefix_len-le-length}
use Rattle.std.specs.Prelude.{nat_lt}
use Rattle.sd_claim_text.proofs.name.beyond_ascii_len.Goals as goal

pub returns-clause-exact : goal.returns-clause-exact
returns-clause-exact c =
    let found = position_from_yields_List (λ (byte : ℕ). nat_lt byte 0x80) _ _ c.position-end.result c.position-end.ensures.ran
    (YieldsList-from_slice _ c.iter.ensures.rest) (λ x b q k. search (rules, tests)) in
    let most = prefix_len-le-length (λ (byte : ℕ). not ((λ (byte : ℕ). nat_lt byte 0x80) byte)) c.args.text.now in
    grind (arith, nat_tests, found, most)
