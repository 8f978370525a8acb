-- What was shown so far.
use Rattle.std.proofs.Common.{◌≡◌, map}
use Rattle.sd_commands.specs.SidTexts.{shown_line}
use Rattle.sd_commands.proofs.sid_texts.shown_lines.Given as goal

abbrev pub invariant-loop-line : goal.invariant-loop-line
invariant-loop-line g l = l.shown.items ≡ map (shown_line (g.T.SidTexts.texts l.texts)) l.yielded
