use Rattle.sd_tree.proofs.Staying.{one_changed}
use Rattle.sd_tree.proofs.tree_view.TreeView.one_node_plan.Goals as goal

pub returns-clause-plan : goal.returns-clause-plan
returns-clause-plan c =
    let n = c.in_ok-node.ensures in
    one_changed c.args.self.now.mapping.now c.args.self.now.nodes.now c.requires.standing c.args.path.now c.args.at c.requires.within c.requires.stands c.args.row
    c.in_ok-node.node n.path n.row n.whole n.fits c.requires.alone
