-- The reasons so far stand at the places of the bits that have a part in the answer, and at the others none.
use Rattle.sd_explain.proofs.Cited.{None, get_or, of_case, reason_at}
use Rattle.sd_explain.proofs.Written.{IsWritten}
use Rattle.sd_explain.proofs.case.Case.write_reasons.Given as goal

abbrev pub invariant-loop-place : goal.invariant-loop-place
invariant-loop-place l = IsWritten None l.reasons (λ b. get_or l.fn.reasons b None) l.answered (of_case reason_at l.self l.self.question.asked) l.place
