use Rattle.sd_script_laws.proofs.Remaking.{dump_makes_the_tree_again}
use Rattle.sd_script_laws.proofs.laws.dump_makes_the_tree_again.Goals as goal

pub returns : goal.returns
returns c = dump_makes_the_tree_again
