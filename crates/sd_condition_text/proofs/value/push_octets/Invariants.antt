-- The text so far is what was there, and the octets so far.
use Rattle.std.proofs.Common.{string_bytes, take, ◌++◌, ◌≡◌}
use Rattle.std.specs.List.{flat_map}
use Rattle.sd_condition_text.specs.Value.{octet_text}
use Rattle.sd_condition_text.proofs.value.push_octets.Given as goal

abbrev pub invariant-loop-octet : goal.invariant-loop-octet
invariant-loop-octet l = string_bytes l.out ≡ string_bytes l.fn.out ++ flat_map octet_text (take l.octet-index l.octets)
