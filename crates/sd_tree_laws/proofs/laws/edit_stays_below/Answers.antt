use Rattle.sd_tree_laws.proofs.Reach.{edit_stays_below}
use Rattle.sd_tree_laws.proofs.laws.edit_stays_below.Goals as goal

pub returns : goal.returns
returns c = edit_stays_below
