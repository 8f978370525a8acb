-- What is counted of the lines is what the state after the last one has.
use Rattle.sd_script.proofs.Cited.{err_from_is_err_and, refl}
use Rattle.sd_script.proofs.streams.serve.Goals as goal

pub returns-clause-ok : goal.returns-clause-ok
returns-clause-ok g c =
    let out = rw (c.before_first_line-state.ensures, c.style.ensures) at c.in_ok-answer_lines.ensures.ok in
    record {
      printed = out.printed;
      output = (out.output.0, out.output.1, (c.answer_lines.new.state, out.output.2, refl));
      appended = out.appended;
    }

pub returns-in_err-answer_lines-clause-err : goal.returns-in_err-answer_lines-clause-err
returns-in_err-answer_lines-clause-err g c =
    let refused = err_from_is_err_and c.from_residual.result c.from_residual.ensures.1 in
    rw (refused.1, refused.2) (rw (c.before_first_line-state.ensures, c.style.ensures) at c.in_err-answer_lines.ensures.err)
