use Rattle.sd_tree.proofs.Cited.{HoldsAt, IfOk-weaker, ap, dacl_of_row, path_of_node, sym, tree_of, up, whole_at_root, whole_with, ◌∙◌, ◌≡◌}
use Rattle.sd_tree.proofs.Beside.{dacl_beside}
use Rattle.sd_tree.proofs.NewNode.{stored_whole, below_stored}
use Rattle.sd_tree.proofs.tree_view.TreeView.inherited_at.Goals as goal

pub returns-then-is_root : goal.returns-then-is_root
returns-then-is_root c =
    let g = c.args.self.now.mapping.now in
    let same = whole_at_root g (tree_of c.args.self.now.nodes.now) c.args.path.now c.args.row.now (sym c.if-is_root.ensures) in
    IfOk-weaker c.inherited_below.result _ _ (λ inherited is. is ∙ same) c.inherited_below.ensures

pub returns-in-Some : goal.returns-in-Some
returns-in-Some c =
    let g = c.args.self.now.mapping.now in
    let bs = c.args.self.now.nodes.now in
    let row = c.args.row.now in
    let above = c.node-above.result.now in
    let there : HoldsAt (λ b. path_of_node b ≡ up c.args.path.now) bs c.place_of.result = λ d. c.place_of.ensures.stands d ∙ c.parent.ensures in
    let is = stored_whole g bs c.requires.standing.kept (up c.args.path.now) c.place_of.result above c.place_of.ensures.within there (c.node-above.ensures above) in
    let whole = dacl_beside g bs c.requires.standing c.args.path.now row above.whole c.in-Some.beside.0 is c.in-Some.ensures.sibling
    c.in-Some.beside.1.now (c.in-Some.ensures.node c.in-Some.beside.1.now) c.inherited.result.now c.inherited.ensures
    ∙ below_stored g bs c.requires.standing.kept c.args.path.now row (sym c.if-is_root.ensures) c.place_of.result above c.place_of.ensures.within there (c.node-above.ensures above) in
    IfOk-weaker c.share.result _ _ (λ inherited same. ap (whole_with row) same ∙ whole) c.share.ensures

pub returns : goal.returns
returns c =
    let above = c.node-above.result.now in
    let whole = below_stored c.args.self.now.mapping.now c.args.self.now.nodes.now c.requires.standing.kept c.args.path.now c.args.row.now (sym c.if-is_root.ensures)
    c.place_of.result above c.place_of.ensures.within (λ d. c.place_of.ensures.stands d ∙ c.parent.ensures) (c.node-above.ensures above) in
    IfOk-weaker c.inherited_below-2.result _ _ (λ inherited is. is ∙ ap (dacl_of_row c.args.self.now.mapping.now c.args.row.now) (sym c.parts.ensures.parts) ∙ whole) c.inherited_below-2.ensures
