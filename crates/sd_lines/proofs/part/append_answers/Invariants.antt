use Rattle.sd_lines.proofs.Cited.{Continues, List, Option, length, ℕ, ◌≤◌}
use Rattle.sd_lines.proofs.part.append_answers.Given as goal

abbrev pub invariant-lines : goal.invariant-lines
invariant-lines g l = record {
  continues : (now : Option (List ℕ)) → Continues l.form (g.A.AnswersLines.answers l.answers)
      l.initial.state l.initial.line.items l.initial.text.items now l.initial.rest l.state l.line.items l.text.items now l.rest;
  less : length l.rest ≤ length l.initial.rest;
}

abbrev pub decreases-lines : goal.decreases-lines
decreases-lines g l = length l.rest
