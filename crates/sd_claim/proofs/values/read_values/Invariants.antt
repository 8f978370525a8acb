-- The values so far, and those at the offsets that are left, are all values.
use Rattle.sd_claim.proofs.Loop.{ValuesLeft}
use Rattle.sd_claim.proofs.values.read_values.Given as goal

abbrev pub invariant-loop-k : goal.invariant-loop-k
invariant-loop-k l = ValuesLeft l.value_type l.bytes l.room l.count l.k l.left l.values.items
