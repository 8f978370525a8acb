use Rattle.std.proofs.Common.{◌≡◌, take}
use Rattle.sd_specialize.specs.Children.{with_classes}
use Rattle.sd_specialize.proofs.children.push_classes.Given as goal

abbrev pub invariant-loop-entry : goal.invariant-loop-entry
invariant-loop-entry l = l.classes.items ≡ with_classes l.initial.classes.items (take l.entry-index l.entries)
