use Rattle.sd_tree.proofs.Cited.{ChangesOneNode, NodeRow, PlainTree, same_row_stays, subst, sym, tree_of, ◌∙◌}
use Rattle.sd_tree.proofs.Adding.{changed_there}
use Rattle.sd_tree.proofs.tree_view.TreeView.keeping_plan.Goals as goal

pub one_node_plan-requires-clause-alone : goal.one_node_plan-requires-clause-alone
one_node_plan-requires-clause-alone c =
    let t = tree_of c.args.self.now.nodes.now in
    let same = changed_there t c.args.path.now (λ (row : NodeRow). row) c.node_of-at.result.1.now.row _ c.node_of-at.ensures.node.row (c.in_ok-row-in-None.ensures ∙ c.row.ensures) in
    let P : PlainTree → Type 0 = λ u. ChangesOneNode c.args.self.now.mapping.now t u c.args.path.now in
    subst P (sym same) (same_row_stays c.args.self.now.mapping.now t c.args.path.now)
