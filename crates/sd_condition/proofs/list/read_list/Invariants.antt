-- The values so far, and those in the rest, are all values.
use Rattle.sd_condition.proofs.Cited.{length}
use Rattle.sd_condition.proofs.Loop.{ValuesLeft}
use Rattle.sd_condition.proofs.list.read_list.Given as goal

abbrev pub invariant-loop-rest : goal.invariant-loop-rest
invariant-loop-rest l = ValuesLeft l.bytes l.rest l.values.items

abbrev pub decreases-loop-rest : goal.decreases-loop-rest
decreases-loop-rest l = length l.rest
