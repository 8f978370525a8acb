-- The bytes so far are those that were there, and the entries so far.
use Rattle.sd_whole.proofs.Cited.{flat_map, take, vec_capacity, whole_entry_bytes, ◌++◌, ◌≡◌, ◌≤◌}
use Rattle.sd_whole.proofs.list.push_whole_entries.Given as goal

abbrev pub invariant-loop-entry : goal.invariant-loop-entry
invariant-loop-entry l =
    (l.bytes.items ≡ l.fn.bytes.items ++ flat_map whole_entry_bytes (take l.entry-index l.entries))
    × (vec_capacity l.fn.bytes ≤ vec_capacity l.bytes)
