use Rattle.sd_tree.proofs.Cited.{ChangesOneNode, PlainTree, ap, changed_row, has_child, not-true, subst, sym, tree_of, ◌∙◌}
use Rattle.sd_tree.proofs.Adding.{changed_there}
use Rattle.sd_tree.proofs.OneNode.{trustee_stays, childless_stays}
use Rattle.sd_tree.proofs.tree_view.TreeView.change_plan.Goals.{then-is_of_trustee, else-is_of_trustee}
use Rattle.sd_tree.proofs.tree_view.TreeView.change_plan.Goals as goal

pub one_node_plan-requires-clause-alone : goal.one_node_plan-requires-clause-alone
one_node_plan-requires-clause-alone c =
    let g = c.args.self.now.mapping.now in
    let t = tree_of c.args.self.now.nodes.now in
    let same = changed_there t c.args.path.now (changed_row c.args.change) c.node_of-at.result.1.now.row _ c.node_of-at.ensures.node.row (c.in_ok-row.ensures ∙ ap (changed_row c.args.change) c.row.ensures) in
    let P : PlainTree → Type 0 = λ u. ChangesOneNode g t u c.args.path.now in
    subst P (sym same) (elim c.if-is_of_trustee.branch [
      | then-is_of_trustee w ↦ trustee_stays g t c.args.path.now c.args.change (sym c.is_of_trustee.ensures ∙ w.if-is_of_trustee.true)
      | else-is_of_trustee w ↦ childless_stays g t c.requires.standing.closed c.args.path.now (changed_row c.args.change)
          (sym (w.has_child.ensures ∙ ap (has_child t) w.as_path_ref.ensures) ∙ not-true w.has_child.result (sym w.alone-is ∙ c.if-alone.true))
    ])
