-- What is left has its entries and copies after those that were added.
use Rattle.std.proofs.Common.{◌≡◌, ◌++◌, drop}
use Rattle.sd_specialize.specs.Copies.{all_with_copies}
use Rattle.sd_specialize.proofs.copies.all_with_copies.Given as goal

abbrev pub invariant-loop-entry : goal.invariant-loop-entry
invariant-loop-entry l =
    l.all.items ++ all_with_copies l.markers (drop l.entry-index l.entries) ≡ all_with_copies l.markers l.entries
