-- What was shown so far.
use Rattle.std.proofs.Common.{◌≡◌, map}
use Rattle.sd_commands.specs.SidTexts.{shown_value}
use Rattle.sd_commands.proofs.sid_texts.shown_values.Given as goal

abbrev pub invariant-loop-value : goal.invariant-loop-value
invariant-loop-value g l = l.shown.items ≡ map (shown_value (g.T.SidTexts.texts l.texts)) l.yielded
