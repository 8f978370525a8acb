-- The lines of the places so far stand behind the others.
use Rattle.sd_answer.proofs.Cited.{bits_form, lines_below, values, ◌++◌, ◌≡◌}
use Rattle.sd_answer.proofs.lines.BitsWriter.push_lines.Given as goal

abbrev pub invariant-loop-place : goal.invariant-loop-place
invariant-loop-place l =
    l.out.items ≡ l.initial.out.items ++ lines_below (bits_form l.self.form) l.self.made (values l.lines) l.place
