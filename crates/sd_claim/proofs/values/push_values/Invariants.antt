-- The bytes so far are those that were there, and the values so far.
use Rattle.sd_claim.proofs.Cited.{flat_map, take, value_bytes, ◌++◌, ◌≡◌}
use Rattle.sd_claim.proofs.values.push_values.Given as goal

abbrev pub invariant-loop-value : goal.invariant-loop-value
invariant-loop-value l = l.bytes.items ≡ l.fn.bytes.items ++ flat_map value_bytes (take l.value-index l.values)
