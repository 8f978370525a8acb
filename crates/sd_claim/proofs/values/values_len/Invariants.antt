-- The total so far is what the values so far take.
use Rattle.sd_claim.proofs.Cited.{flat_map, length, take, value_bytes, ◌<◌, ◌^◌, ◌≡◌}
use Rattle.sd_claim.proofs.values.values_len.Given as goal

abbrev pub invariant-loop-value : goal.invariant-loop-value
invariant-loop-value l = (l.total ≡ length (flat_map value_bytes (take l.value-index l.values))) × (l.total < 2 ^ 64)
