use Rattle.std.proofs.Common.{◌≡◌, take}
use Rattle.sd_specialize.specs.Marked.{conditionals_of, lent_marks}
use Rattle.sd_specialize.proofs.marked.conditionals_of.Given as goal

abbrev pub invariant-loop-entry : goal.invariant-loop-entry
invariant-loop-entry l = lent_marks l.all.items ≡ conditionals_of (take l.entry-index l.entries)
