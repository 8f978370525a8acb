use Rattle.sd_c.proofs.Cited.{history_of, rules}
use Rattle.sd_c.proofs.views.form_at.Goals as goal

pub returns-clause-ok : goal.returns-clause-ok
returns-clause-ok c = (history_of c.in-View.tree, c.in_ok-path.path, search rules, search rules, search rules)
