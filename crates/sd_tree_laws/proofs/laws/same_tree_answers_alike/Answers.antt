use Rattle.sd_tree_laws.proofs.AnsweredAlike.{same_tree_answers_alike}
use Rattle.sd_tree_laws.proofs.laws.same_tree_answers_alike.Goals as goal

pub returns : goal.returns
returns c = same_tree_answers_alike
