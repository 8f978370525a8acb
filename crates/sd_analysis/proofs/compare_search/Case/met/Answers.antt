use Rattle.sd_analysis.proofs.Cited.{ap, holds, sym, ◌∙◌}
use Rattle.sd_analysis.proofs.Reports.{in_difference}
use Rattle.sd_analysis.proofs.Shares.{low_held, met_held, none_met}
use Rattle.sd_analysis.proofs.compare_search.Case.met.Goals as goal

pub returns-then-is_empty-clause-within : goal.returns-then-is_empty-clause-within
returns-then-is_empty-clause-within c = λ b h. low_held c.common.result b (sym (ap (λ m. holds m b) c.common-worth.ensures) ∙ h)

pub returns-then-is_empty-clause-met : goal.returns-then-is_empty-clause-met
returns-then-is_empty-clause-met c = λ b low. none_met c.granted-granted.result c.only_if-listed.result 0 c.listed.result 0 c.minus.result c.common.result c.common-worth.result
    c.args.among b _ _ _ c.args.demand.unlisted c.args.demand.unowned c.only_if-listed.ensures c.minus.ensures c.common.ensures c.common-worth.ensures low
    (c.granted-granted.ensures b low) (ap (λ m. holds m b) c.listed.ensures ∙ c.requires.before b low) (sym c.is_empty.ensures ∙ c.if-is_empty.true)

pub returns-clause-within : goal.returns-clause-within
returns-clause-within c = λ b h.
    low_held c.common.result b (sym (ap (λ m. holds m b) c.common-worth.ensures)
    ∙ (in_difference c.common-worth.result c.only_if-owned.result b (sym (ap (λ m. holds m b) c.minus-2.ensures) ∙ h)).0)

pub returns-clause-met : goal.returns-clause-met
returns-clause-met c = λ b low. met_held c.granted-granted.result c.only_if-listed.result c.only_if-owned.result c.listed.result c.owned.result c.minus.result c.common.result c.common-worth.result
    c.args.among b _ _ _ c.args.demand.unlisted c.args.demand.unowned c.only_if-listed.ensures c.minus.ensures c.common.ensures c.common-worth.ensures low
    (c.granted-granted.ensures b low) (ap (λ m. holds m b) c.listed.ensures ∙ c.requires.before b low)
    c.minus-2.result c.only_if-owned.ensures c.minus-2.ensures (c.owned.ensures b low)
