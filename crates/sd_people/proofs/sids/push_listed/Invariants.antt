-- What is left has its SIDs after those that were added.
use Rattle.std.proofs.Common.{◌≡◌, ◌++◌, drop, map}
use Rattle.sd_people.specs.Naming.{listed_sid}
use Rattle.sd_people.proofs.sids.push_listed.Given as goal

abbrev pub invariant-loop-one : goal.invariant-loop-one
invariant-loop-one l =
    l.sids.items ++ map listed_sid (drop l.one-index l.listed) ≡ l.initial.sids.items ++ map listed_sid l.listed
