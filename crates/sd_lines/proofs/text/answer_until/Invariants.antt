use Rattle.sd_lines.proofs.Cited.{AreAnswered, List, length, lines_in, of_form, ℕ, ◌++◌, ◌≡◌}
use Rattle.sd_lines.proofs.text.answer_until.Given as goal

abbrev pub invariant-loop-are_over : goal.invariant-loop-are_over
invariant-loop-are_over g l = record {
  lines : List (List ℕ);
  added : List ℕ;
  cut : lines_in l.form.ending l.initial.rest ≡ lines ++ lines_in l.form.ending l.rest;
  printed : l.printed.items ≡ l.initial.printed.items ++ added;
  answered : AreAnswered (of_form l.form (g.A.AnswersLines.answers l.answers)) l.initial.state lines added l.state;
}

abbrev pub decreases-loop-are_over : goal.decreases-loop-are_over
decreases-loop-are_over g l = length l.rest
