-- What an error leaves of the output, it leaves of the answer.
use Rattle.std.proofs.Common.{None, Err, ap}
use Rattle.std.proofs.lemmas.Result.{err_from_is_err_and}
use Rattle.sd_commands.specs.Answer.{answer_of}
use Rattle.sd_arguments.specs.CommandLine.{Runs, Script}
use Rattle.sd_arguments.specs.Options.{options_of}
use Rattle.sd_questions.specs.TextAnswer.{printed_as}
use Rattle.sd_arguments.specs.declared.command_line.ScriptRun.TheVariants.{AtOnce, Audit}
use Rattle.sd_command_line.proofs.Telling.{output_leaves}
use Rattle.sd_command_line.proofs.perform.perform_script.Goals as goal

pub returns-in_err-counts-in-AtOnce-clause-err : goal.returns-in_err-counts-in-AtOnce-clause-err
returns-in_err-counts-in-AtOnce-clause-err g c =
    let refused = err_from_is_err_and c.from_residual-in_err-counts-in-AtOnce.result c.from_residual-in_err-counts-in-AtOnce.ensures.1 in
    rw (c.in-AtOnce.is, refused.1, refused.2)
    (output_leaves AtOnce (options_of c.args.options) c.in-Ok.run_options c.in-Ok.ensures (λ error other. other) _ None _ _ _ c.in_err-counts-in-AtOnce.ensures.err)

pub returns-in_err-counts-in-Audit-clause-err : goal.returns-in_err-counts-in-Audit-clause-err
returns-in_err-counts-in-Audit-clause-err g c =
    let refused = err_from_is_err_and c.from_residual-in_err-counts-in-Audit.result c.from_residual-in_err-counts-in-Audit.ensures.1 in
    rw (c.in-Audit.is, refused.1, refused.2)
    (output_leaves (Audit c.in-Audit.workers) (options_of c.args.options) c.in-Ok.run_options c.in-Ok.ensures (λ error other. other) _ None _ _ _ c.in_err-counts-in-Audit.ensures.err)

-- the value of an option that is invalid is the answer
pub returns-in-Err-clause-ok : goal.returns-in-Err-clause-ok
returns-in-Err-clause-ok g c =
    let plain = answer_of c.in_ok-answer-in-Err.answer in
    c.print.ensures.ok (Runs (options_of c.args.options) (Script c.args.script_run)) _
    (Err c.in-Err.bad, c.in-Err.ensures, (plain, c.in_ok-answer-in-Err.ensures, ap (λ style. printed_as style plain) c.style.ensures))
