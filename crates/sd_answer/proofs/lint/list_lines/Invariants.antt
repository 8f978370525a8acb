-- The lines so far are those of the entries so far.
use Rattle.sd_answer.proofs.Cited.{list_lines, ◌≡◌}
use Rattle.sd_answer.proofs.lint.list_lines.Given as goal

abbrev pub invariant-loop-place : goal.invariant-loop-place
invariant-loop-place l = l.lines.items ≡ list_lines l.entries l.marks l.place
