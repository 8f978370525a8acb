use Rattle.std.proofs.Common.{◌∙◌, refl}
use Rattle.sd_tree.proofs.Kept.{node_here}
use Rattle.sd_tree.proofs.tree_view.TreeView.node_of.Goals as goal

pub returns-clause-node : goal.returns-clause-node
returns-clause-node c =
    node_here _ _ c.place_of-at.result c.node.result.now _ c.requires.standing.kept.order
    (c.place_of-at.ensures.within, λ d. c.place_of-at.ensures.stands d ∙ c.as_path_ref.ensures)
    (c.node.ensures c.node.result.now) refl
