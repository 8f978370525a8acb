-- What the line asks is answered, after its tag.
use Rattle.sd_script.proofs.Cited.{Err, Ok, OnOk, Result, ap, printed}
use Rattle.sd_script.proofs.ids.ScriptAnswersLines.answer.Goals as goal

on_ok : {T E P Q : Type 0} (r : Result T E) → (P → Q) → OnOk r P → OnOk r Q
on_ok (Ok x) f p = f p
on_ok (Err e) f p = p

pub returns : goal.returns
returns c = rw c.in-Some.is (on_ok c.push_answer.result (λ said. (
  _,
  said.2,
  (said.0, rw c.asked_in-asked.ensures at said.1, ap (λ tag. printed c.args.self.now.style tag said.0) c.tag_in-tag.ensures),
)) c.push_answer.ensures.answered)
