-- The bytes so far and the offsets that are left are those that were there and all offsets; the values that are left
-- end where all of them do.
use Rattle.sd_claim.proofs.Cited.{drop, flat_map, length, offsets_from, to_le_bytes, value_bytes, w32, ◌++◌, ◌+◌, ◌≡◌}
use Rattle.sd_claim.proofs.values.push_offsets.Given as goal

abbrev pub invariant-loop-value : goal.invariant-loop-value
invariant-loop-value l =
    (l.bytes.items ++ flat_map (to_le_bytes w32) (offsets_from l.place (drop l.value-index l.values))
    ≡ l.fn.bytes.items ++ flat_map (to_le_bytes w32) (offsets_from l.first l.values))
    × (l.place + length (flat_map value_bytes (drop l.value-index l.values)) ≡ l.first + length (flat_map value_bytes l.values))
