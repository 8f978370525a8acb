use Rattle.sd_line.proofs.Cited.{YieldsList-from_slice, arith, nat_tests, not, position_from_yields_List, prefix_len-le-length, rules, tests, ℕ, ◌==◌}
use Rattle.sd_line.proofs.form.len_before.Goals as goal

pub returns-clause-len : goal.returns-clause-len
returns-clause-len c =
    let brace = c.args.brace in
    let found = position_from_yields_List (λ (b : ℕ). b == brace) _ _ c.position.result c.position.ensures.ran
    (YieldsList-from_slice _ c.iter.ensures.rest) (λ x b q k. search (rules, tests)) in
    let most = prefix_len-le-length (λ (b : ℕ). not (b == brace)) c.args.text.now in
    grind (arith, nat_tests, found, most)
