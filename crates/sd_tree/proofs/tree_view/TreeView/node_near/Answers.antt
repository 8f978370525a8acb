use Rattle.sd_tree.proofs.Cited.{Node, ap, compared_same, sym, ◌∙◌}
use Rattle.sd_tree.proofs.tree_view.TreeView.node_near.Goals as goal

pub returns-then-eq-clause-stands : goal.returns-then-eq-clause-stands
returns-then-eq-clause-stands c d =
    let same = compared_same _ _ c.compare.result c.compare.ensures (sym c.if-eq.ensures) in
    sym (c.path.ensures ∙ ap (λ (n : Node). n.path) (c.requires.node d)) ∙ same
