-- The entries so far are those that stay of the ones so far.
use Rattle.std.proofs.Common.{take, ◌≡◌}
use Rattle.sd_change.specs.Change.{entries_after}
use Rattle.sd_change.proofs.change.Change.entries_after.Given as goal

abbrev pub invariant-loop-entry : goal.invariant-loop-entry
invariant-loop-entry l = l.after.items ≡ entries_after l.self l.kind (take l.entry-index l.entries)
