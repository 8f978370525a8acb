-- A list's entries are few enough for AceCount.
use Rattle.sd_whole.proofs.Cited.{arith, whole_acl_size, ◌≤◌}
use Rattle.sd_whole.proofs.Lengths.{entries_take}
use Rattle.sd_whole.proofs.list.push_whole_list.Goals as goal

pub overflow_cast-count : goal.overflow_cast-count
overflow_cast-count c = let known : whole_acl_size c.entries-entries.result.now ≤ 65535 = rw c.entries-entries.ensures.entries c.entries-entries.ensures.known in omega (arith, entries_take c.entries-entries.result.now)
