-- The units so far are not zero, and what follows them is left.
use Rattle.sd_claim.proofs.Cited.{length}
use Rattle.sd_claim.proofs.Loop.{TextLeft}
use Rattle.sd_claim.proofs.part.read_terminated_len.Given as goal

abbrev pub invariant-loop-rest : goal.invariant-loop-rest
invariant-loop-rest l = TextLeft l.bytes l.rest l.len

abbrev pub decreases-loop-rest : goal.decreases-loop-rest
decreases-loop-rest l = length l.rest
