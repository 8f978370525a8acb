-- What the rest does to a tally, all entries do.
use Rattle.std.proofs.Common.{◌≤◌, Bool, length, map}
use Rattle.sd_check.proofs.Cited.{asking, TakesOn, CheckProgress}
use Rattle.sd_check.proofs.question.Question.from_next.Given as goal

abbrev pub invariant-silent : goal.invariant-silent
invariant-silent g l =
    let q = asking g.O.Trustee.sid l.self in
    let ace = g.E.Entry.ace in
    ((both : Bool) (progress to : CheckProgress) → TakesOn both q (map ace l.rest) progress to → TakesOn both q (map ace l.entries) progress to)
    × (length l.rest ≤ length l.entries)

abbrev pub decreases-silent : goal.decreases-silent
decreases-silent g l = length l.rest
