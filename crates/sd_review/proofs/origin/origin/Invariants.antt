-- Where it stood before the edits that are left is where it stood before all.
use Rattle.std.proofs.Common.{◌≡◌, ◌≤◌, length}
use Rattle.sd_review.proofs.Origins.{IsWalked}
use Rattle.sd_review.proofs.origin.origin.Given as goal

abbrev pub invariant-loop-at : goal.invariant-loop-at
invariant-loop-at l = IsWalked l.fn.tree.journal l.fn.from l.at l.place l.fn.path × (l.at ≤ length l.fn.tree.journal)

abbrev pub decreases-loop-at : goal.decreases-loop-at
decreases-loop-at l = l.at
