-- The walk is over the entries so far.
use Rattle.sd_analysis.proofs.Cited.{IsWalk, granted_by, implied_holder, take, undecided_by}
use Rattle.sd_analysis.proofs.who_case.Case.walk.Given as goal

abbrev pub invariant-loop-entry : goal.invariant-loop-entry
invariant-loop-entry l =
    IsWalk l.self.base.now
    (granted_by (implied_holder l.self.owner.now l.self.entries.now l.place) l.self.owner.now l.self.mapping.now (take l.entry-index l.self.entries.now) l.place)
    (undecided_by l.self.owner.now l.self.mapping.now (take l.entry-index l.self.entries.now) l.place) l.walk
