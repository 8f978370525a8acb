-- The units so far are those that were there, and those of the characters so far.
use Rattle.std.proofs.Common.{◌++◌, ◌≡◌}
use Rattle.std.specs.Char.Escape.{encode_utf16}
use Rattle.std.specs.List.{flat_map}
use Rattle.sd_data.proofs.text.push_utf16.Given as goal

abbrev pub invariant-loop-c : goal.invariant-loop-c
invariant-loop-c l = l.units.items ≡ l.fn.units.items ++ flat_map encode_utf16 l.yielded
