-- What is left has its copies after those that were added.
use Rattle.std.proofs.Common.{◌≡◌, ◌++◌, drop}
use Rattle.std.specs.List.{filter_map}
use Rattle.sd_specialize.specs.Copies.{copy_for}
use Rattle.sd_specialize.proofs.copies.push_copies.Given as goal

abbrev pub invariant-loop-marker : goal.invariant-loop-marker
invariant-loop-marker l =
    l.all.items ++ filter_map (copy_for l.entry) (drop l.marker-index l.markers)
    ≡ l.initial.all.items ++ filter_map (copy_for l.entry) l.markers
