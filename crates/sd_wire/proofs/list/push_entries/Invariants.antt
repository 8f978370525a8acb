-- The bytes so far are those that were there, and the entries so far.
use Rattle.sd_wire.proofs.Cited.{entry_bytes, flat_map, take, vec_capacity, ◌++◌, ◌≡◌, ◌≤◌}
use Rattle.sd_wire.proofs.list.push_entries.Given as goal

abbrev pub invariant-loop-entry : goal.invariant-loop-entry
invariant-loop-entry l =
    (l.bytes.items ≡ l.fn.bytes.items ++ flat_map entry_bytes (take l.entry-index l.entries))
    × (vec_capacity l.fn.bytes ≤ vec_capacity l.bytes)
