use Rattle.std.proofs.Common.{◌≡◌, take}
use Rattle.sd_specialize.specs.Children.{handed_conditionals_of}
use Rattle.sd_specialize.specs.Marked.{lent_marks}
use Rattle.sd_specialize.proofs.children.handed_conditionals_of.Given as goal

abbrev pub invariant-loop-entry : goal.invariant-loop-entry
invariant-loop-entry l = lent_marks l.all.items ≡ handed_conditionals_of (take l.entry-index l.entries)
