-- The one answer is printed.
use Rattle.std.proofs.Common.{ap, option_map, refl}
use Rattle.sd_lines.specs.Watched.{inner_of}
use Rattle.sd_commands.specs.Answer.{answer_of}
use Rattle.sd_questions.specs.TextAnswer.{printed_as}
use Rattle.sd_arguments.specs.CommandLine.{Ask, Help, Runs, Version, request_of}
use Rattle.sd_arguments.specs.Options.{options_of}
use Rattle.sd_command_line.proofs.perform.perform.Goals as goal

pub returns-in_ok-answer-in-Runs-Ask-clause-ok : goal.returns-in_ok-answer-in-Runs-Ask-clause-ok
returns-in_ok-answer-in-Runs-Ask-clause-ok g c =
    let text = option_map (λ text. text.now) c.in-Runs-Ask.text in
    let plain = answer_of c.in_ok-answer-in-Runs-Ask.answer in
    let field = rw c.in-Runs-Ask.is at c.in-Runs-Ask.field-0-is in
    rw (c.in-Runs-Ask.is, field)
    (c.print.ensures.ok (Runs (options_of c.args.line.options) (Ask text (request_of c.in-Runs-Ask.request))) _
    (plain, c.in_ok-answer-in-Runs-Ask.ensures.ok, ap (λ style. printed_as style plain) c.style.ensures))

pub returns-in_ok-help-in-Help-clause-ok : goal.returns-in_ok-help-in-Help-clause-ok
returns-in_ok-help-in-Help-clause-ok g c =
    rw c.in-Help.is (c.print_text.ensures.ok (Help c.in-Help.command) (g.R.Read.remaining (inner_of c.args.reader.now)) (refl, refl))

pub returns-in_ok-version_text-in-Version-clause-ok : goal.returns-in_ok-version_text-in-Version-clause-ok
returns-in_ok-version_text-in-Version-clause-ok g c =
    rw c.in-Version.is
    (c.print_text-in-Version.ensures.ok Version (g.R.Read.remaining (inner_of c.args.reader.now))
    (c.in_ok-version_text-in-Version.ensures, refl, refl))

pub returns-in-Runs-Each-clause-ok : goal.returns-in-Runs-Each-clause-ok
returns-in-Runs-Each-clause-ok g c =
    let field = rw c.in-Runs-Each.is at c.in-Runs-Each.field-0-is in
    rw (c.in-Runs-Each.is, field) c.answer_each.ensures.ok

pub returns-in-Runs-Script-clause-ok : goal.returns-in-Runs-Script-clause-ok
returns-in-Runs-Script-clause-ok g c =
    let field = rw c.in-Runs-Script.is at c.in-Runs-Script.field-0-is in
    rw (c.in-Runs-Script.is, field) c.perform_script.ensures.ok
