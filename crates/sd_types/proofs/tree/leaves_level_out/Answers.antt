use Rattle.std.proofs.Common.{◌≡◌, ◌+◌, ◌-◌, ℕ, nat_lt, Option, ap, ◌∙◌, arith}
use Rattle.std.specs.Option.{option_map_or}
use Rattle.std.proofs.lemmas.Bool.{lt-ltb, ltb-true}
use Rattle.sd_types.specs.declared.tree.TypeNode.{TypeNode}
use Rattle.sd_types.proofs.Lists.{same_tests}
use Rattle.sd_types.proofs.tree.leaves_level_out.Goals as goal

deeper : (l n : ℕ) → nat_lt 1 (n - l) ≡ nat_lt (l + 1) n
deeper l n =
    same_tests (nat_lt 1 (n - l)) (nat_lt (l + 1) n)
    (λ h. let more = ltb-true 1 (n - l) h in lt-ltb (l + 1) n (omega (arith, more)))
    (λ h. let more = ltb-true (l + 1) n h in lt-ltb 1 (n - l) (omega (arith, more)))

pub returns-in-Some : goal.returns-in-Some
returns-in-Some c =
    ap (nat_lt 1) c.saturating_sub.ensures
    ∙ (deeper c.in-Some.last.now.level c.args.level
    ∙ ap (λ (o : Option TypeNode). nat_lt (option_map_or (λ (last : TypeNode). last.level + 1) o 0) c.args.level) c.in-Some.ensures.value)
