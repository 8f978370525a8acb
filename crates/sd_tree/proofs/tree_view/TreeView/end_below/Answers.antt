use Rattle.sd_tree.proofs.Runs.{end_rises, never_at_end, end_behind, end_inside, end_beyond}
use Rattle.sd_tree.proofs.tree_view.TreeView.end_below.Goals as goal

pub unreachable-requires : goal.unreachable-requires
unreachable-requires c = never_at_end c.args.self.now.nodes.now c.requires.standing.kept.order c.args.path.now c.args.at c.requires.within c.requires.stands c.in-Ok.field-0 c.in-Ok.ensures.bound c.in-Ok.ensures.position

pub returns-clause-place : goal.returns-clause-place
returns-clause-place c =
    let rises = end_rises c.args.self.now.nodes.now c.requires.standing.kept.order c.args.path.now c.args.at c.requires.within c.requires.stands in
    (end_behind c.args.self.now.nodes.now c.requires.standing.kept.order c.args.path.now c.args.at c.requires.within c.requires.stands c.in-Err.end c.in-Err.ensures.bound (c.in-Err.ensures.position rises), c.in-Err.ensures.bound)

pub returns-clause-below : goal.returns-clause-below
returns-clause-below c =
    let rises = end_rises c.args.self.now.nodes.now c.requires.standing.kept.order c.args.path.now c.args.at c.requires.within c.requires.stands in
    end_inside c.args.self.now.nodes.now c.requires.standing.kept.order c.args.path.now c.args.at c.requires.within c.requires.stands c.in-Err.end c.in-Err.ensures.bound (c.in-Err.ensures.position rises)

pub returns-clause-beyond : goal.returns-clause-beyond
returns-clause-beyond c =
    let rises = end_rises c.args.self.now.nodes.now c.requires.standing.kept.order c.args.path.now c.args.at c.requires.within c.requires.stands in
    end_beyond c.args.self.now.nodes.now c.requires.standing.kept.order c.args.path.now c.args.at c.requires.within c.requires.stands c.in-Err.end c.in-Err.ensures.bound (c.in-Err.ensures.position rises)
