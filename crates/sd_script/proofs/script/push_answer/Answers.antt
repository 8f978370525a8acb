-- What a line asks for may be done, and its answer not printed.
use Rattle.std.proofs.Common.{refl}
use Rattle.sd_script.proofs.Untold.{answered_untold, on_err}
use Rattle.sd_script.proofs.script.push_answer.Goals as goal

pub returns-in_err-push_printed-2-clause-failed : goal.returns-in_err-push_printed-2-clause-failed
returns-in_err-push_printed-2-clause-failed c =
    on_err c.from_residual-in_err-push_printed-2.result
    (refl, refl, answered_untold _ _ c.args.line.now c.in_ok-answer-2.answer c.in_ok-answer-2.ensures.answered)
