use Rattle.sd_tree.proofs.Cited.{Node, ap, arith, compared_same, sym, ◌∙◌}
use Rattle.sd_tree.proofs.tree_view.TreeView.stands_at.Goals as goal

pub returns : goal.returns
returns c held = (
  omega arith,
  λ d.
      let same = compared_same _ _ c.compare.result c.compare.ensures (sym c.eq.ensures ∙ held) in
      sym (c.path.ensures ∙ ap (λ (n : Node). n.path) (c.node.ensures d)) ∙ same,
)
