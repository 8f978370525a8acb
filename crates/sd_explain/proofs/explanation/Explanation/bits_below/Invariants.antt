-- The bits so far are those of the share below the place.
use Rattle.sd_explain.proofs.Cited.{bits_of, reason_in, ◌≡◌}
use Rattle.sd_explain.proofs.explanation.Explanation.bits_below.Given as goal

abbrev pub invariant-loop-place : goal.invariant-loop-place
invariant-loop-place l = l.bits ≡ bits_of l.share (reason_in l.self.reasons) l.place
