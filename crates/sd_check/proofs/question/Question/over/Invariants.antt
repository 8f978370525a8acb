-- What the rest makes of this tally, all entries make of the first.
use Rattle.std.proofs.Common.{length, map, not, nat_eq}
use Rattle.sd_check.proofs.Cited.{asking, TakesOn, CheckProgress}
use Rattle.sd_check.proofs.question.Question.over.Given as goal

abbrev pub invariant-each : goal.invariant-each
invariant-each g l =
    let both = not (nat_eq (denote.Param.value_of (denote.Param.number g.row.BOTH)) 0) in
    (to : CheckProgress) → TakesOn both (asking g.O.Trustee.sid l.self) (map g.E.Entry.ace l.rest) l.progress to → TakesOn both (asking g.O.Trustee.sid l.self) (map g.E.Entry.ace l.entries) l.fn.before to

abbrev pub decreases-each : goal.decreases-each
decreases-each g l = length l.rest
