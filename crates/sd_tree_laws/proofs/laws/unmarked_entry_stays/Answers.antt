use Rattle.sd_tree_laws.proofs.Copies.{unmarked_entry_stays}
use Rattle.sd_tree_laws.proofs.laws.unmarked_entry_stays.Goals as goal

pub returns : goal.returns
returns c = unmarked_entry_stays
