-- The bytes so far are those that were there, and the sub-authorities so far; there is room for the others.
use Rattle.sd_sid.proofs.Cited.{flat_map, length, take, to_le_bytes, vec_capacity, vec_len, w32, ◌*◌, ◌++◌, ◌+◌, ◌-◌, ◌≡◌, ◌≤◌}
use Rattle.sd_sid.proofs.bytes.push_subs.Given as goal

abbrev pub invariant-loop-sub : goal.invariant-loop-sub
invariant-loop-sub l =
    (l.bytes.items ≡ l.fn.bytes.items ++ flat_map (to_le_bytes w32) (take l.sub-index l.subs))
    × (vec_len l.bytes + 4 * (length l.subs - l.sub-index) ≤ vec_capacity l.bytes)
    × (vec_capacity l.fn.bytes ≤ vec_capacity l.bytes)
