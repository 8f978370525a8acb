use Rattle.sd_tree.proofs.Cited.{err_from_is_err_and, opening_within, sym}
use Rattle.sd_tree.proofs.Stands.{stored_first, root_error}
use Rattle.sd_tree.proofs.tree.Tree.opening_within.Goals as goal

pub returns-in_err-node-clause-refused : goal.returns-in_err-node-clause-refused
returns-in_err-node-clause-refused c =
    let p = err_from_is_err_and c.from_residual.result c.from_residual.ensures.1 in
    rw (p.1, p.2) (root_error (opening_within c.args.mapping.now c.args.root.now c.args.limits) c.in_err-node.field-0.0 (sym c.in_default.ensures) c.in_err-node.ensures.refused)

pub invariant_of-result : goal.invariant_of-result
invariant_of-result c =
    let n = c.in_ok-node.ensures in
    let first = stored_first (opening_within c.args.mapping.now c.args.root.now c.args.limits) c.in_ok-node.node n.path n.row n.whole n.fits (sym c.in_default.ensures) in
    rw (c.in_ok-copy.ensures, c.new.ensures, c.in_ok-nodes.ensures) first

pub returns-clause-accepted : goal.returns-clause-accepted
returns-clause-accepted c =
    let n = c.in_ok-node.ensures in
    let o = opening_within c.args.mapping.now c.args.root.now c.args.limits in
    (stored_first o c.in_ok-node.node n.path n.row n.whole n.fits (sym c.in_default.ensures)).accepted
