use Rattle.sd_tree_laws.proofs.Steps as laws
use Rattle.sd_tree_laws.proofs.laws.dacl_is_of_parent.Goals as goal

pub returns-clause-parent : goal.returns-clause-parent
returns-clause-parent c = laws.dacl_is_of_parent

pub returns-clause-root : goal.returns-clause-root
returns-clause-root c = laws.root_inherits_nothing
