-- The grants to the SIDs so far are added.
use Rattle.sd_analysis.proofs.Cited.{flat_map, grants_to, take, ◌++◌, ◌≡◌}
use Rattle.sd_analysis.proofs.risks.add_grants.Given as goal

abbrev pub invariant-loop-sid : goal.invariant-loop-sid
invariant-loop-sid l = l.found.items ≡ l.initial.found.items
    ++ flat_map (grants_to l.whose l.case.owner.now l.case.entries.now l.case.mapping.now l.case.base.now) (take l.sid-index l.sids)
