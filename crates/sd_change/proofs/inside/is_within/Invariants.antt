-- The SID is in the bytes if it is in the rest of them.
use Rattle.std.proofs.Common.{drop, ◌≡◌}
use Rattle.sd_change.specs.Inside.{is_within}
use Rattle.sd_change.proofs.inside.is_within.Given as goal

abbrev pub invariant-loop-place : goal.invariant-loop-place
invariant-loop-place l = is_within l.sid l.bytes ≡ is_within l.sid (drop l.place l.bytes)
