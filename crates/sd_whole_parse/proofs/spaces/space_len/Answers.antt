use Rattle.std.proofs.Common.{arith, not, rules, tests, ℕ, ◌==◌}
use Rattle.std.proofs.lemmas.Bool.Decides.{nat_tests}
use Rattle.std.proofs.lemmas.Iterator.{YieldsList-from_slice}
use Rattle.std.proofs.lemmas.Iterator.Search.{position_from_yields_List}
use Rattle.std.proofs.lemmas.List.Sums.{prefix_len-le-length}
use Rattle.sd_whole_parse.proofs.spaces.space_len.Goals as goal

pub returns-clause-len : goal.returns-clause-len
returns-clause-len c =
    let found = position_from_yields_List (λ (b : ℕ). not (b == 0x20)) _ _ c.position-end.result c.position-end.ensures.ran
    (YieldsList-from_slice _ c.iter.ensures.rest) (λ x b q k. search (rules, tests)) in
    let most = prefix_len-le-length (λ (b : ℕ). not (not (b == 0x20))) c.args.text.now in
    grind (arith, nat_tests, found, most)
