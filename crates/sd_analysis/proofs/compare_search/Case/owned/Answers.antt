use Rattle.std.proofs.Common.{refl, sym, false, true, ◌∙◌}
use Rattle.sd_analysis.proofs.Shares.{owners_held}
use Rattle.sd_analysis.proofs.compare_search.Case.owned.Goals as goal

pub returns-then-not-is_owner : goal.returns-then-not-is_owner
returns-then-not-is_owner c = λ b low. owners_held false _ _ _ 0 b refl (sym c.if-not-is_owner.true ∙ c.is_owner.ensures) refl low

pub returns : goal.returns
returns c = λ b low.
    owners_held true c.limits_owner.result _ _ c.only_if.result b c.only_if.ensures (sym c.if-not-is_owner.false ∙ c.is_owner.ensures) c.limits_owner.ensures low
