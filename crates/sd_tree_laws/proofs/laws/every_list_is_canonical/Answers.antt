use Rattle.sd_tree_laws.proofs.OwnEntries.{every_list_is_canonical}
use Rattle.sd_tree_laws.proofs.laws.every_list_is_canonical.Goals as goal

pub returns : goal.returns
returns c = every_list_is_canonical
