use Rattle.std.proofs.Common.{◌∙◌}
use Rattle.sd_tree.proofs.Adding.{removal}
use Rattle.sd_tree.proofs.Kept.{a_node}
use Rattle.sd_tree.proofs.tree_view.TreeView.removal_plan.Goals as goal

pub returns : goal.returns
returns c =
    let bs = c.args.self.now.nodes.now in
    removal _ bs c.requires.standing c.args.path.now c.requires.childless c.place_of-at.result c.place_of-at.ensures.within
    (λ d. c.place_of-at.ensures.stands d ∙ c.as_path_ref.ensures) (a_node bs c.place_of-at.result c.place_of-at.ensures.within)
