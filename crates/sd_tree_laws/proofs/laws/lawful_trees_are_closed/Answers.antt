use Rattle.sd_edit.proofs.Closed.{closed_replay}
use Rattle.sd_tree_laws.proofs.laws.lawful_trees_are_closed.Goals as goal

pub returns : goal.returns
returns c = closed_replay
