use Rattle.std.proofs.Common.{◌∙◌, rules, string_bytes, sym, tests}
use Rattle.std.proofs.Math.Bool.{or-false}
use Rattle.sd_arguments.specs.CommandLine.{command_line_of}
use Rattle.sd_command_line.proofs.program.drive.Goals as goal

-- the answer is that of the command line, and its status that of what came of it
pub returns-in-Ok-perform-clause-answered : goal.returns-in-Ok-perform-clause-answered
returns-in-Ok-perform-clause-answered g c = λ low. (
  string_bytes c.in-Ok-perform.field-0.told,
  (
    command_line_of c.in-Ok.line,
    sym c.in-Ok.ensures,
    rw c.status_of.ensures.status c.in-Ok-perform.ensures.ok,
  ),
  search (rules, tests),
)

pub returns-in-Ok-perform-clause-sound : goal.returns-in-Ok-perform-clause-sound
returns-in-Ok-perform-clause-sound g c = λ low. (c.in-Ok-perform.ensures.read ∙ or-false _, c.in-Ok-perform.ensures.write ∙ or-false _)

pub returns-in-Ok-perform-clause-sound_fault : goal.returns-in-Ok-perform-clause-sound_fault
returns-in-Ok-perform-clause-sound_fault g c = λ fault. (c.in-Ok-perform.ensures.read ∙ or-false _, c.in-Ok-perform.ensures.write ∙ or-false _)
