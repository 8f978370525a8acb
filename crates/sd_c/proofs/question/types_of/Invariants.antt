-- The object types so far are those of the parts so far.
use Rattle.std.proofs.Common.{take, ◌≡◌}
use Rattle.sd_c.specs.WholeCheck.{types_of}
use Rattle.sd_c.proofs.question.types_of.Given as goal

abbrev pub invariant-loop-part : goal.invariant-loop-part
invariant-loop-part l = l.types.items ≡ types_of (take l.part-index l.parts)
