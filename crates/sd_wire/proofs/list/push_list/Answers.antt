-- A list's entries are few enough for AceCount.
use Rattle.std.proofs.Common.{arith}
use Rattle.sd_wire.proofs.Lengths.{few_entries}
use Rattle.sd_wire.proofs.list.push_list.Goals as goal

pub overflow_cast-count : goal.overflow_cast-count
overflow_cast-count c = omega (arith, few_entries c.entries-entries.result.now (rw c.entries-entries.ensures.entries c.entries-entries.ensures.known))
