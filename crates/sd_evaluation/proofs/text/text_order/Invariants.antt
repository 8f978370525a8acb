-- The order of what is left is the order of the whole.
use Rattle.std.proofs.Common.{length, ◌≡◌}
use Rattle.sd_evaluation.specs.Case.{text_order}
use Rattle.sd_evaluation.proofs.text.text_order.Given as goal

abbrev pub invariant-units : goal.invariant-units
invariant-units l = text_order l.with_case l.left l.right ≡ text_order l.with_case l.fn.a l.fn.b

abbrev pub decreases-units : goal.decreases-units
decreases-units l = length l.left
