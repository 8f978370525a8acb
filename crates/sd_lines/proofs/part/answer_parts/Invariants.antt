use Rattle.sd_lines.proofs.Cited.{Continues, [], ends_run, false, has_failed, inner_of, length, ◌≡◌}
use Rattle.sd_lines.proofs.part.answer_parts.Given as goal

abbrev pub invariant-loop-rest : goal.invariant-loop-rest
invariant-loop-rest g l = record {
  continues : Continues l.form (g.A.AnswersLines.answers l.answers)
      l.initial.state l.initial.line.items [] (g.W.Write.contents (inner_of l.initial.writer)) l.initial.rest
      l.state l.line.items [] (g.W.Write.contents (inner_of l.writer)) l.rest;
  goes_on : ends_run l.form l.line.items ≡ false;
  unfailed : has_failed l.writer ≡ has_failed l.initial.writer;
}

abbrev pub decreases-loop-rest : goal.decreases-loop-rest
decreases-loop-rest g l = length l.rest
