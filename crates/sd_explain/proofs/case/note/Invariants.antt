use Rattle.sd_explain.proofs.Cited.{NoEntry, get_or}
use Rattle.sd_explain.proofs.Written.{IsWritten}
use Rattle.sd_explain.proofs.case.note.Given as goal

abbrev pub invariant-loop-place : goal.invariant-loop-place
invariant-loop-place l = IsWritten NoEntry l.findings (λ b. get_or l.fn.findings b NoEntry) l.decided (λ b. l.finding) l.place
