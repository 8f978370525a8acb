-- The lines so far, and those of the nodes that are left; the last comparison.
use Rattle.sd_script.proofs.Cited.{ForSome, IsNodeReview, IsRight, entries, trees_of}
use Rattle.sd_script.proofs.Reviewed.{AreToldTo}
use Rattle.sd_script.proofs.review.ReviewLines.changes.Given as goal

abbrev pub invariant-loop-index : goal.invariant-loop-index
invariant-loop-index l =
    AreToldTo (IsNodeReview l.self.paths (trees_of l.self.review) l.top) (entries (trees_of l.self.review).new) l.index l.lines.items
    × ForSome l.last (IsRight l.self.review.old.now.opening.mapping)
