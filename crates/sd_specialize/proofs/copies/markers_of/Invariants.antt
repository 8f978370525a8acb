-- What is left has its markers after those that were added.
use Rattle.std.proofs.Common.{◌≡◌, ◌++◌, drop}
use Rattle.sd_specialize.specs.Context.{context_of}
use Rattle.sd_specialize.specs.Copies.{markers_from, markers_of}
use Rattle.sd_specialize.specs.Marked.{lent_marks}
use Rattle.sd_specialize.proofs.copies.markers_of.Given as goal

abbrev pub invariant-loop-i : goal.invariant-loop-i
invariant-loop-i l =
    l.markers.items ++ markers_from (context_of l.context) (lent_marks l.marks) l.i (lent_marks (drop l.i l.marks))
    ≡ markers_of (context_of l.context) (lent_marks l.marks)
