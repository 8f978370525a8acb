use Rattle.sd_analysis.proofs.Rights.{side_with, side_without}
use Rattle.sd_analysis.proofs.who_case.on_the_side_of.Goals as goal
use Rattle.std.proofs.Common.{◌∙◌, sym}

pub returns-then-holds : goal.returns-then-holds
returns-then-holds c = λ b low. side_with c.args.rights c.args.named c.args.place c.common.result b c.common.ensures (sym c.holds.ensures ∙ c.if-holds.true) low

pub returns-else-holds : goal.returns-else-holds
returns-else-holds c = λ b low. side_without c.args.rights c.args.named c.args.place c.minus.result b c.minus.ensures (sym c.holds.ensures ∙ c.if-holds.false) low
