-- The settings are those that the options say.
use Rattle.std.proofs.Common.{inr, refl}
use Rattle.std.proofs.lemmas.Result.{err_from_is_err_and}
use Rattle.sd_questions.proofs.each.answer_each.Goals as goal

pub returns-in_err-answer_lines-clause-err : goal.returns-in_err-answer_lines-clause-err
returns-in_err-answer_lines-clause-err g c =
    let refused = err_from_is_err_and c.from_residual-in_err-answer_lines.result c.from_residual-in_err-answer_lines.ensures.1 in
    let left = rw (c.form_of-form.ensures, c.style.ensures) at c.in_err-answer_lines.ensures.err in
    rw (refused.1, refused.2) (inr (c.settings.result, c.settings.ensures, left))

pub returns-clause-ok : goal.returns-clause-ok
returns-clause-ok g c =
    let out = rw (c.form_of-form.ensures, c.style.ensures) at c.in_ok-answer_lines.ensures.ok in
    record {
      text = out.printed;
      outcome = c.unwrap_or.result;
      answers = (c.settings.result, c.settings.ensures, out.output.0, c.answer_lines.new.state, out.output.1, out.output.2, (_, c.told_of_lines.ensures), c.unwrap_or.ensures);
      ended = refl;
      appended = out.appended;
    }
