-- The text so far is what was there, and the units so far.
use Rattle.std.proofs.Common.{string_bytes, take, ◌++◌, ◌≡◌}
use Rattle.std.specs.List.{flat_map}
use Rattle.sd_condition_text.specs.Attribute.{unit_text}
use Rattle.sd_condition_text.proofs.attribute.push_escaped.Given as goal

abbrev pub invariant-loop-unit : goal.invariant-loop-unit
invariant-loop-unit l = string_bytes l.out ≡ string_bytes l.fn.out ++ flat_map unit_text (take l.unit-index l.name)
