-- The rest of the marks decides.
use Rattle.std.proofs.Common.{◌≡◌, drop}
use Rattle.sd_specialize.specs.Marked.{lent_marks}
use Rattle.sd_commands.specs.Conditions.{text_from}
use Rattle.sd_commands.proofs.settings.CommandContext.text_for.Given as goal

abbrev pub invariant-loop-i : goal.invariant-loop-i
invariant-loop-i l =
    text_from l.self.settings.now 0 (lent_marks l.marks) l.sid l.state ≡ text_from l.self.settings.now l.i (lent_marks (drop l.i l.marks)) l.sid l.state
