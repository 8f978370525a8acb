-- What is left has its SIDs after those that were added.
use Rattle.std.proofs.Common.{◌≡◌, ◌++◌, drop}
use Rattle.std.specs.List.{flat_map}
use Rattle.sd_people.specs.Naming.{sids_of_part}
use Rattle.sd_people.proofs.sids.push_sids_of_parts.Given as goal

abbrev pub invariant-loop-part : goal.invariant-loop-part
invariant-loop-part l =
    l.sids.items ++ flat_map sids_of_part (drop l.part-index l.parts) ≡ l.initial.sids.items ++ flat_map sids_of_part l.parts
