use Rattle.sd_c.proofs.Cited.{arc_value, history_of, rules}
use Rattle.sd_c.proofs.views.asked_of.Goals as goal

pub returns-clause-ok : goal.returns-clause-ok
returns-clause-ok c =
    (history_of c.in-View.tree, c.in_ok-path.path, arc_value c.in-Token.token, search rules, search rules, search rules, search rules)
