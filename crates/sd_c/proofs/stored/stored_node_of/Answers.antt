use Rattle.sd_c.proofs.Cited.{HasNode, err_from_is_err_and, inr, rules}
use Rattle.sd_c.proofs.stored.stored_node_of.Goals as goal

pub returns-in_err-inherited-clause-err : goal.returns-in_err-inherited-clause-err
returns-in_err-inherited-clause-err c =
    let node = c.in_ok-owner.field-0 in
    let p = err_from_is_err_and c.from_residual-in_err-inherited.result c.from_residual-in_err-inherited.ensures.1 in
    let has_node : HasNode c.args.own.now = (node.owner, node.group, node.dacl, c.in_ok-owner.ensures.ok) in
    rw (p.1, p.2) (inr (has_node, c.in_err-inherited.ensures.err))
