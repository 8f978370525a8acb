-- The claims so far, before those of the other entries, are all of them.
use Rattle.std.proofs.Common.{◌≡◌, ◌++◌, drop}
use Rattle.std.specs.List.{filter_map}
use Rattle.sd_access.specs.Access.{claim_in}
use Rattle.sd_access.proofs.resource.claims_in.Given as goal

abbrev pub invariant-loop-entry : goal.invariant-loop-entry
invariant-loop-entry l = filter_map claim_in l.entries ≡ l.claims.items ++ filter_map claim_in (drop l.entry-index l.entries)
