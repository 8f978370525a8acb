use Rattle.sd_c.proofs.Cited.{history_of, rules}
use Rattle.sd_c.proofs.stores.reverted.Goals as goal

pub returns : goal.returns
returns c = (history_of c.in-View.tree, search rules, search rules, search rules, search rules)
