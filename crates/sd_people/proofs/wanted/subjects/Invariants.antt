-- The SIDs so far are those of the owner and of the entries so far.
use Rattle.std.proofs.Common.{◌≡◌, take}
use Rattle.sd_people.specs.Passed.{subjects}
use Rattle.sd_people.proofs.wanted.subjects.Given as goal

abbrev pub invariant-loop-entry : goal.invariant-loop-entry
invariant-loop-entry l = l.sids.items ≡ subjects l.owner (take l.entry-index l.entries)
