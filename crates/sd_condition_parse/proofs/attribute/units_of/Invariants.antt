-- The units so far are the bytes so far.
use Rattle.sd_condition_parse.proofs.Cited.{take, ◌≡◌}
use Rattle.sd_condition_parse.proofs.attribute.units_of.Given as goal

abbrev pub invariant-loop-byte : goal.invariant-loop-byte
invariant-loop-byte l = l.units.items ≡ take l.byte-index l.name
