-- What is left has its SIDs after those that were added.
use Rattle.std.proofs.Common.{◌≡◌, ◌++◌, drop}
use Rattle.std.specs.List.{flat_map}
use Rattle.sd_people.specs.Naming.{sids_of_value}
use Rattle.sd_people.proofs.sids.push_sids_of_values.Given as goal

abbrev pub invariant-loop-value : goal.invariant-loop-value
invariant-loop-value l =
    l.sids.items ++ flat_map sids_of_value (drop l.value-index l.values) ≡ l.initial.sids.items ++ flat_map sids_of_value l.values
