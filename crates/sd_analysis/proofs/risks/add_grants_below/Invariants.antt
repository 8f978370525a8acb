-- The grants in the descendants so far are added.
use Rattle.sd_analysis.proofs.Cited.{descendants_of, flat_map, grants_in, stops_somewhere, take, ◌++◌, ◌≡◌}
use Rattle.sd_analysis.proofs.risks.add_grants_below.Given as goal

abbrev pub invariant-loop-descendant : goal.invariant-loop-descendant
invariant-loop-descendant l = l.found.items ≡ l.initial.found.items
    ++ flat_map (grants_in l.case.entries.now l.case.mapping.now l.case.base.now l.sids)
    (take l.descendant-index (descendants_of (stops_somewhere l.case.entries.now)))
