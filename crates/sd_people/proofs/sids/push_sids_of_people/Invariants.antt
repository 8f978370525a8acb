-- What is left has its SIDs after those that were added.
use Rattle.std.proofs.Common.{◌≡◌, ◌++◌, drop}
use Rattle.std.specs.List.{flat_map}
use Rattle.sd_people.specs.Naming.{sids_of_told}
use Rattle.sd_people.proofs.sids.push_sids_of_people.Given as goal

abbrev pub invariant-loop-told : goal.invariant-loop-told
invariant-loop-told l =
    l.sids.items ++ flat_map sids_of_told (drop l.told-index l.people) ≡ l.initial.sids.items ++ flat_map sids_of_told l.people
