-- What was shown so far.
use Rattle.std.proofs.Common.{◌≡◌, map}
use Rattle.sd_commands.specs.SidTexts.{shown_part}
use Rattle.sd_commands.proofs.sid_texts.shown_parts.Given as goal

abbrev pub invariant-loop-part : goal.invariant-loop-part
invariant-loop-part g l = l.shown.items ≡ map (shown_part (g.T.SidTexts.texts l.texts)) l.yielded
