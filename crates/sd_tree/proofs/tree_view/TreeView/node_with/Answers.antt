use Rattle.sd_tree.proofs.Cited.{AdditionValue, IfErr-weaker, IfOk-weaker, Node, NodeRow, ap, dacl_at, insert, parent_there, path_of_node, row_at-insert_same, tree_of, whole_with, ◌∙◌, ◌≡◌}
use Rattle.sd_tree.proofs.Rebuilding.{large_error, row_there}
use Rattle.sd_tree.proofs.NewNode.{size_error}
use Rattle.sd_tree.proofs.tree_view.TreeView.node_with.Goals as goal

pub inherited_at-requires-clause-parent : goal.inherited_at-requires-clause-parent
inherited_at-requires-clause-parent c below =
    let there = row_there c.args.self.now.nodes.now c.requires.standing.kept.order c.args.path.now c.args.at c.requires.within c.requires.stands in
    rw c.as_path_ref.ensures (parent_there (tree_of c.args.self.now.nodes.now) c.requires.standing.closed c.args.path.now there.0 there.1)

-- the node's whole DACL, by what it inherits
whole : (c : goal.After-new-2) → whole_with c.in_ok-addition.addition.row c.in_ok-inherited.inherited ≡ dacl_at c.args.self.now.mapping.now (insert (tree_of c.args.self.now.nodes.now) c.args.path.now c.args.row) c.args.path.now
whole c =
    let row-is : c.in_ok-addition.addition.row ≡ c.args.row = ap (λ (a : AdditionValue). a.row) c.in_ok-addition.ensures in
    ap (λ (r : NodeRow). whole_with r c.in_ok-inherited.inherited) row-is ∙ (rw (c.as_path_ref.ensures, c.row.ensures ∙ row-is) at c.in_ok-inherited.ensures)

pub returns-clause-path : goal.returns-clause-path
returns-clause-path c = IfOk-weaker c.new-2.result _ _ (λ n is. ap path_of_node is ∙ ap (λ (a : AdditionValue). a.path) c.in_ok-addition.ensures ∙ c.in_ok-copy.ensures) c.new-2.ensures.node

pub returns-clause-row : goal.returns-clause-row
returns-clause-row c = IfOk-weaker c.new-2.result _ _ (λ n is. ap (λ (m : Node). m.row) is ∙ ap (λ (a : AdditionValue). a.row) c.in_ok-addition.ensures) c.new-2.ensures.node

pub returns-clause-whole : goal.returns-clause-whole
returns-clause-whole c = IfOk-weaker c.new-2.result _ _ (λ n is. ap (λ (m : Node). m.whole) is ∙ whole c) c.new-2.ensures.node

pub returns-clause-refused : goal.returns-clause-refused
returns-clause-refused c =
    IfErr-weaker c.new-2.result _ _ (λ e refused. large_error _ _ c.args.path.now c.args.row e (row_at-insert_same _ _ _) (size_error e _ _ (whole c) refused)) c.new-2.ensures.refused
