use Rattle.sd_tree_laws.proofs.Copies.{inherited_has_id}
use Rattle.sd_tree_laws.proofs.OwnEntries.{own_has_no_id, without_id_is_own}
use Rattle.sd_tree_laws.proofs.laws.inherited_has_id.Goals as goal

pub returns-clause-inherited : goal.returns-clause-inherited
returns-clause-inherited c = inherited_has_id

pub returns-clause-own : goal.returns-clause-own
returns-clause-own c = own_has_no_id

pub returns-clause-explicit : goal.returns-clause-explicit
returns-clause-explicit c = without_id_is_own
