use Rattle.sd_tree_laws.proofs.Reach.{protected_stands_alone}
use Rattle.sd_tree_laws.proofs.laws.protected_stands_alone.Goals as goal

pub returns : goal.returns
returns c = protected_stands_alone
