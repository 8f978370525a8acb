use Rattle.sd_tree_laws.proofs.Copies.{nothing_waits_in_an_object}
use Rattle.sd_tree_laws.proofs.laws.nothing_waits_in_an_object.Goals as goal

pub returns : goal.returns
returns c = nothing_waits_in_an_object
