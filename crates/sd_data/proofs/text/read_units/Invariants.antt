-- The units so far are those at the front of the bytes, and there is room for the others.
use Rattle.sd_data.proofs.Cited.{length, map, range_with_len, u16_at, vec_capacity, vec_len, ◌*◌, ◌/◌, ◌≡◌}
use Rattle.sd_data.proofs.text.read_units.Given as goal

abbrev pub invariant-loop-k : goal.invariant-loop-k
invariant-loop-k l =
    (l.units.items ≡ map (λ k. u16_at l.bytes (2 * k)) (range_with_len 0 l.k))
    × (vec_len l.units ≡ l.k)
    × (vec_capacity l.units ≡ length l.bytes / 2)
