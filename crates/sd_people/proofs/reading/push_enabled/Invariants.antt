-- The groups so far, all of them SIDs.
use Rattle.std.proofs.Common.{◌≡◌, ◌++◌, map, take}
use Rattle.std.specs.List.{AllByRecursion}
use Rattle.sd_sid.specs.Sid.{IsSid}
use Rattle.sd_people.specs.Reading.{enabled}
use Rattle.sd_people.proofs.reading.push_enabled.Given as goal

abbrev pub invariant-loop-sid : goal.invariant-loop-sid
invariant-loop-sid l = record {
  all : l.all.items ≡ l.initial.all.items ++ map enabled (take l.sid-index l.sids);
  known : AllByRecursion IsSid (take l.sid-index l.sids);
}
