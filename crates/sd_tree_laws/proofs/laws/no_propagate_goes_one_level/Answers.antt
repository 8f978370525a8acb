use Rattle.sd_tree_laws.proofs.Copies.{no_propagate_goes_one_level}
use Rattle.sd_tree_laws.proofs.laws.no_propagate_goes_one_level.Goals as goal

pub returns : goal.returns
returns c = no_propagate_goes_one_level
