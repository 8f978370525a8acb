use Rattle.std.proofs.Common.{refl}
use Rattle.sd_analysis.proofs.Rights.{owners_place}
use Rattle.sd_analysis.proofs.who_case.Case.implied_holder.Goals as goal

pub returns : goal.returns
returns c = rw (← owners_place c.args.place c.requires, ← c.holds.ensures, ← c.limits_owner.ensures, c.if-not-holds.false, c.if-limits_owner.false) refl
