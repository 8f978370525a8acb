use Rattle.sd_c.proofs.Cited.{err_from_is_err_and, history_of, inr, listed, rules}
use Rattle.sd_c.proofs.stored.kept_at.Goals as goal

pub returns-clause-ok : goal.returns-clause-ok
returns-clause-ok c =
    let node = listed c.in-Some.node in (history_of c.in-View.tree, node.1, search rules, (node.0, search rules), search rules)

pub returns-in_err-bytes-clause-err : goal.returns-in_err-bytes-clause-err
returns-in_err-bytes-clause-err c =
    let node = listed c.in-Some.node in
    let p = err_from_is_err_and c.from_residual.result c.from_residual.ensures.1 in
    rw (p.1, p.2) (inr (inr (history_of c.in-View.tree, node.1, search rules, (node.0, search rules), c.in_err-bytes.ensures.err)))
