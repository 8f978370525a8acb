-- The run so far; the parent that was read last, and the node right before the next.
use Rattle.sd_tree.proofs.Cited.{AreUnder, Node, get_or, length, true, ℕ, ◌+◌, ◌-◌, ◌<◌, ◌≡◌}
use Rattle.sd_tree.proofs.tree_view.TreeView.subtree.Given as goal

abbrev pub invariant-loop-k : goal.invariant-loop-k
invariant-loop-k l = record {
  within : l.last.0 < length l.self.nodes.now;
  node : (n : Node) → l.last.1.now ≡ get_or l.self.nodes.now l.last.0 n;
  before : (n : Node) → l.before ≡ get_or l.self.nodes.now (l.k - 1) n;
  walk : l.walk ≡ l.self.nodes.now;
  count : l.at + length l.run.items ≡ l.k;
  under : AreUnder l.self.mapping.now l.self.nodes.now l.path l.at l.fn.first l.run.items;
  stay : l.stays ≡ true → (j : ℕ) (b c : Node) → j < length l.run.items
      → (get_or l.run.items j c).whole ≡ (get_or l.self.nodes.now (l.at + j) b).whole;
}
