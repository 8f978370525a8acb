-- The copies so far are the edits so far.
use Rattle.std.proofs.Common.{◌≡◌, take}
use Rattle.sd_tree.proofs.journal.share_edits.Given as goal

abbrev pub invariant-loop-edit : goal.invariant-loop-edit
invariant-loop-edit l = l.shared.items ≡ take l.edit-index l.edits
