-- What is granted by the lines so far.
use Rattle.sd_people.specs.Way.{AreGranted}
use Rattle.sd_people.proofs.granted.grants_of.Given as goal

abbrev pub invariant-loop-line : goal.invariant-loop-line
invariant-loop-line l = AreGranted l.member.rows l.member.starts (l.user, l.name) l.yielded l.told.items
