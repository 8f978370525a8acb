-- The entries so far.
use Rattle.std.proofs.Common.{◌≡◌}
use Rattle.sd_whole_lint.specs.Bounds.{settled_below}
use Rattle.sd_whole_lint.proofs.bounds.settled_entries.Given as goal

abbrev pub invariant-loop-place : goal.invariant-loop-place
invariant-loop-place l = l.settled.items ≡ settled_below l.bound l.principal_self l.wholes l.entries l.place
