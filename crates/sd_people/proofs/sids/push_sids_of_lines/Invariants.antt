-- What is left has its SIDs after those that were added.
use Rattle.std.proofs.Common.{◌≡◌, ◌++◌, drop}
use Rattle.std.specs.List.{flat_map}
use Rattle.sd_people.specs.Naming.{sids_of_line}
use Rattle.sd_people.proofs.sids.push_sids_of_lines.Given as goal

abbrev pub invariant-loop-line : goal.invariant-loop-line
invariant-loop-line l =
    l.sids.items ++ flat_map sids_of_line (drop l.line-index l.lines) ≡ l.initial.sids.items ++ flat_map sids_of_line l.lines
