-- The new descriptor of `diff` is the first argument.
use Rattle.std.proofs.Common.{IfOk}
use Rattle.sd_commands.specs.Answer.{answer_of}
use Rattle.sd_commands.specs.CommandAnswer.{AnswersDiff, argument}
use Rattle.sd_commands.proofs.command_answer.answer_question.Goals as goal

pub returns-in-Diff : goal.returns-in-Diff
returns-in-Diff c =
    let said : IfOk c.diff.result (λ answer. AnswersDiff c.args.settings.now c.args.text.now (argument c.args.arguments.now 0) (answer_of answer))
    = rw (← c.argument.ensures) c.diff.ensures in
    rw (c.in-Diff.is) said
