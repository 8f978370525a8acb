-- The SIDs so far are those of the words so far.
use Rattle.std.proofs.Common.{◌≡◌, take}
use Rattle.sd_named.specs.Arguments.{sids_as}
use Rattle.sd_named.proofs.added.sids_as.Given as goal

abbrev pub invariant-loop-one : goal.invariant-loop-one
invariant-loop-one l = l.sids.items ≡ sids_as l.role (take l.one-index l.ones)
