-- The entries so far and those that are left are all of them; what is left of the bytes follows those so far, which lie
-- in the room that was made for them.
use Rattle.sd_wire.proofs.Cited.{entries_of, length, min, sum_by, vec_capacity, vec_len, ◌*◌, ◌+◌, ◌-◌, ◌/◌, ◌≡◌, ◌≤◌}
use Rattle.sd_wire.proofs.Loop.{behind}
use Rattle.sd_wire.proofs.entries.read_entries.Given as goal

abbrev pub invariant-loop : goal.invariant-loop
invariant-loop g l =
    (behind l.entries.items (entries_of g.E.ListEntry.reading l.rest (l.count - l.counter)) ≡ entries_of g.E.ListEntry.reading l.bytes l.count)
    × (sum_by g.E.ListEntry.taken l.entries.items + length l.rest ≤ length l.bytes)
    × (l.counter * l.least + length l.rest ≤ length l.bytes)
    × (vec_len l.entries ≡ l.counter)
    × (vec_capacity l.entries ≡ min l.count (length l.bytes / l.least))
