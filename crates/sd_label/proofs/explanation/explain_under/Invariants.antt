-- The places so far have their reasons, and the others those that they have without a label.
use Rattle.sd_label.proofs.Reasons.{AreWritten}
use Rattle.sd_label.proofs.explanation.explain_under.Given as goal

abbrev pub invariant-loop-place : goal.invariant-loop-place
invariant-loop-place l = AreWritten l.taken l.initial.reasons l.reasons l.place
