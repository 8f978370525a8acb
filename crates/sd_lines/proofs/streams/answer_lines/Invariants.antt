use Rattle.sd_lines.proofs.Cited.{Answered, Consumes, HasNoEnd, List, [], ends_run, false, has_failed, inner_of, text_after, text_of, ℕ, ◌++◌, ◌≡◌}
use Rattle.sd_lines.proofs.streams.answer_lines.Given as goal

abbrev pub invariant-loop : goal.invariant-loop
invariant-loop g l = record {
  read : List ℕ;
  consumed : Consumes (g.R.Read.remaining (inner_of l.initial.reader)) (g.R.Read.remaining (inner_of l.reader)) read;
  held : HasNoEnd l.form.ending (text_after l.decoder []);
  answered : (more : List ℕ) → Answered l.form (g.A.AnswersLines.answers l.answers) l.initial.state (g.W.Write.contents (inner_of l.initial.writer))
      (text_of l.form (read ++ more)) l.state l.line.items [] (g.W.Write.contents (inner_of l.writer)) (text_after l.decoder more);
  goes_on : ends_run l.form l.line.items ≡ false;
  reads : has_failed l.reader ≡ has_failed l.initial.reader;
  writes : has_failed l.writer ≡ has_failed l.initial.writer;
}
