use Rattle.std.proofs.Common.{◌≤◌, length}
use Rattle.sd_tree.proofs.tree_view.TreeView.sibling_among.Given as goal

abbrev pub invariant-loop : goal.invariant-loop
invariant-loop l = l.near ≤ length l.self.nodes.now
