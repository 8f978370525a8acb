-- The SIDs so far and those that are left are all of them.
use Rattle.sd_c.proofs.Cited.{length, sids_read, ◌-◌, ◌≡◌}
use Rattle.sd_c.proofs.Loop.{behind}
use Rattle.sd_c.proofs.request.restricting_of.Given as goal

abbrev pub invariant-loop-at : goal.invariant-loop-at
invariant-loop-at l = behind l.sids.items (sids_read l.rest l.at (length l.bytes - l.at)) ≡ sids_read l.bytes 0 (length l.bytes)
