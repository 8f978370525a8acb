use Rattle.sd_tree.proofs.Cited.{err_from_is_err_and, insert, tree_of}
use Rattle.sd_tree.proofs.Staying.{is_taken, all_changed}
use Rattle.sd_tree.proofs.tree_view.TreeView.run_plan.Goals as goal

pub returns-clause-plan : goal.returns-clause-plan
returns-clause-plan c =
    let n = c.in_ok-first.ensures in
    let run = rw c.as_path_ref.ensures at c.in_ok-run.ensures.run in
    let nodes = rw c.as_path_ref.ensures at c.in_ok-run.ensures.nodes in
    all_changed c.args.self.now.mapping.now c.args.self.now.nodes.now c.requires.standing c.args.path.now c.args.at c.requires.within c.requires.stands c.args.row
    c.in_ok-first.first n.path n.row n.whole c.in_ok-run.run'.items run nodes

pub returns-in_err-run-clause-refused : goal.returns-in_err-run-clause-refused
returns-in_err-run-clause-refused c =
    let n = c.in_ok-first.ensures in
    let p = err_from_is_err_and c.from_residual-in_err-run.result c.from_residual-in_err-run.ensures.1 in
    let refused = rw c.as_path_ref.ensures at c.in_err-run.ensures.refused in
    rw (p.1, p.2) (refused (insert (tree_of c.args.self.now.nodes.now) c.args.path.now c.args.row) c.args.path.now
    (is_taken c.args.self.now.mapping.now c.args.self.now.nodes.now c.requires.standing c.args.path.now c.args.at c.requires.within c.requires.stands c.args.row
    c.in_ok-first.first n.path n.row n.whole))
