-- Copies of the entries so far stand behind what stood there.
use Rattle.std.proofs.Common.{◌≡◌, ◌++◌, take}
use Rattle.sd_create.proofs.propagation.push_copies.Given as goal

abbrev pub invariant-loop-entry : goal.invariant-loop-entry
invariant-loop-entry l = l.list.items ≡ l.initial.list.items ++ take l.entry-index l.entries
