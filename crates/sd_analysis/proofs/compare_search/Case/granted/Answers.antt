use Rattle.sd_analysis.proofs.Cited.{ap, holds, ◌∙◌}
use Rattle.sd_analysis.proofs.compare_search.Case.granted.Goals as goal

pub returns-else-demand : goal.returns-else-demand
returns-else-demand c = λ b low. rw c.if-demand.false (ap (λ m. holds m b) c.listed.ensures ∙ c.requires.after b low)
