-- The line has an answer, which can't grow to its end.
use Rattle.sd_script.proofs.Untold.{on_err, told_untold}
use Rattle.sd_script.proofs.script.answered.Goals as goal

pub returns-in_err-end-clause-failed : goal.returns-in_err-end-clause-failed
returns-in_err-end-clause-failed c =
    on_err c.from_residual-in_err-end.result (told_untold _ _ c.args.line.now c.in_ok-answer.answer c.in_ok-answer.ensures.told)
