use Rattle.sd_tree.proofs.Cited.{Node, None, Option, Some, ap, err_from_is_err_and, path_of_node, row_at-insert_same, sym, ◌∙◌, ◌≡◌}
use Rattle.sd_tree.proofs.Adding.{insertion}
use Rattle.sd_tree.proofs.Rebuilding.{large_error, row_there}
use Rattle.sd_tree.proofs.NewNode.{size_error}
use Rattle.sd_tree.proofs.tree_view.TreeView.insertion_plan.Goals as goal

not_both : {X : Type 0} (o : Option X) (x : X) → o ≡ None → o ≡ Some x → ⊥
not_both o x none some = let e : None ≡ Some x = sym none ∙ some in absurd cc

pub unreachable-requires : goal.unreachable-requires
unreachable-requires c =
    let found = c.in-Ok.ensures.found in
    let there = row_there c.args.self.now.nodes.now c.requires.standing.kept.order c.args.addition.path c.in-Ok.field-0 found.0 (λ d. found.1 d ∙ c.as_path_ref-path.ensures ∙ c.path.ensures) in
    not_both _ _ c.requires.addable.free there.1

pub returns-in_err-node-in-Err-clause-refused : goal.returns-in_err-node-in-Err-clause-refused
returns-in_err-node-in-Err-clause-refused c =
    let p = err_from_is_err_and c.from_residual-in_err-node-in-Err.result c.from_residual-in_err-node-in-Err.ensures.1 in
    let whole = rw (c.as_path_ref-path.ensures ∙ c.path.ensures, c.row.ensures) at c.in_ok-inherited-in-Err.ensures in
    let refused = size_error c.in_err-node-in-Err.field-0.0 _ _ whole c.in_err-node-in-Err.ensures.refused in
    rw (p.1, p.2) (large_error _ _ c.args.addition.path c.args.addition.row c.in_err-node-in-Err.field-0.0 (row_at-insert_same _ _ _) refused)

pub returns-clause-plan : goal.returns-clause-plan
returns-clause-plan c =
    let a = rw (c.as_path_ref-path.ensures ∙ c.path.ensures) at c.in-Err.ensures.absent in
    let whole = rw (c.as_path_ref-path.ensures ∙ c.path.ensures, c.row.ensures) at c.in_ok-inherited-in-Err.ensures in
    let is = c.in_ok-node-in-Err.ensures.node in
    insertion _ c.args.self.now.nodes.now c.requires.standing c.args.addition.path c.args.addition.row c.requires.addable c.in-Err.at a.0 a.1 a.2 c.in_ok-node-in-Err.node
    (ap path_of_node is) (ap (λ (m : Node). m.row) is) (ap (λ (m : Node). m.whole) is ∙ whole) c.in_ok-node-in-Err.ensures.fits
