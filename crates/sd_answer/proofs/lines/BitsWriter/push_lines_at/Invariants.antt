-- The lines so far whose lowest bit is at the place stand behind the others.
use Rattle.sd_answer.proofs.Cited.{bits_form, lines_at, take, values, ◌++◌, ◌≡◌}
use Rattle.sd_answer.proofs.lines.BitsWriter.push_lines_at.Given as goal

abbrev pub invariant-loop-line : goal.invariant-loop-line
invariant-loop-line l =
    l.out.items ≡ l.initial.out.items ++ lines_at (bits_form l.self.form) l.self.made (values (take l.line-index l.lines)) l.place
