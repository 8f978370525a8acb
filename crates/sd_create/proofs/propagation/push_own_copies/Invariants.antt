-- The own entries so far stand behind what stood there.
use Rattle.std.proofs.Common.{◌≡◌, ◌++◌, take}
use Rattle.sd_create.specs.Propagation.{own_entries}
use Rattle.sd_create.proofs.propagation.push_own_copies.Given as goal

abbrev pub invariant-loop-entry : goal.invariant-loop-entry
invariant-loop-entry l = l.list.items ≡ l.initial.list.items ++ own_entries (take l.entry-index l.entries)
