-- What came so far is shown.
use Rattle.sd_commands.proofs.Cited.{escaped_chars, string_bytes, ◌≡◌}
use Rattle.sd_commands.proofs.escaped.escaped_part.Given as goal

abbrev pub invariant-loop-c : goal.invariant-loop-c
invariant-loop-c l = string_bytes l.shown ≡ escaped_chars l.yielded
