use Rattle.sd_tree_laws.proofs.Moves.{move_back_undoes_it}
use Rattle.sd_tree_laws.proofs.laws.move_back_undoes_it.Goals as goal

pub returns : goal.returns
returns c = move_back_undoes_it
