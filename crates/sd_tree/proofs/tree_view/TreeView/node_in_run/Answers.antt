use Rattle.sd_tree.proofs.Cited.{Ace, IfErr-weaker, IfOk-weaker, List, Option, ap, sym, whole_with, ◌∙◌}
use Rattle.sd_tree.proofs.Beside.{made_beside}
use Rattle.sd_tree.proofs.NewNode.{size_error}
use Rattle.sd_tree.proofs.tree_view.TreeView.node_in_run.Goals as goal

pub returns-then-beside-at-clause-node : goal.returns-then-beside-at-clause-node
returns-then-beside-at-clause-node c =
    let kept = c.inherited.ensures ∙ ap (whole_with c.index-made-beside.result.row) (sym c.in_ok-share.ensures) in
    let whole = made_beside c.args.self.now.mapping.now c.args.self.now.nodes.now c.args.node.now.path c.args.node.now.row c.args.above.now.whole c.args.places.0 c.in-Some.beside.0 c.args.made.now c.requires.made
    (rw (c.row.ensures, c.path.ensures) at c.in-Some.ensures.sibling) c.if-at-beside.true c.if-beside-at.true c.index-made-beside.result c.index-made-beside.is c.in_ok-share.field-0 kept in
    IfOk-weaker c.inheriting.result _ _ (λ next is. is ∙ ap (λ (w : Option (List Ace)). record c.args.node.now { whole = w }) whole) c.inheriting.ensures.node

pub returns-then-beside-at-clause-refused : goal.returns-then-beside-at-clause-refused
returns-then-beside-at-clause-refused c =
    let kept = c.inherited.ensures ∙ ap (whole_with c.index-made-beside.result.row) (sym c.in_ok-share.ensures) in
    let whole = made_beside c.args.self.now.mapping.now c.args.self.now.nodes.now c.args.node.now.path c.args.node.now.row c.args.above.now.whole c.args.places.0 c.in-Some.beside.0 c.args.made.now c.requires.made
    (rw (c.row.ensures, c.path.ensures) at c.in-Some.ensures.sibling) c.if-at-beside.true c.if-beside-at.true c.index-made-beside.result c.index-made-beside.is c.in_ok-share.field-0 kept in
    IfErr-weaker c.inheriting.result _ _ (λ e refused. size_error e _ _ whole refused) c.inheriting.ensures.refused
