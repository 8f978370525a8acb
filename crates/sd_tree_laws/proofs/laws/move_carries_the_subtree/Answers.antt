use Rattle.sd_tree_laws.proofs.Moves.{move_carries_the_subtree}
use Rattle.sd_tree_laws.proofs.laws.move_carries_the_subtree.Goals as goal

pub returns : goal.returns
returns c = move_carries_the_subtree
