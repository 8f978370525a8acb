use Rattle.sd_analysis.proofs.Deeper as laws
use Rattle.sd_analysis.proofs.laws.below_is_as_in_it.Goals as goal

pub returns : goal.returns
returns c = laws.below_is_as_in_it
