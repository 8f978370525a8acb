use Rattle.sd_c.proofs.Cited.{history_of, listed, rules}
use Rattle.sd_c.proofs.nodes.path_at.Goals as goal

pub returns-in_ok-format-in-Some-clause-ok : goal.returns-in_ok-format-in-Some-clause-ok
returns-in_ok-format-in-Some-clause-ok c =
    let node = listed c.in-Some.node in
    (history_of c.in-View.tree, node.0, node.1, search rules, search rules, search rules, search rules)
