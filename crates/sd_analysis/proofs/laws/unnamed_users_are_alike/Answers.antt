use Rattle.sd_analysis.proofs.Creators as laws
use Rattle.sd_analysis.proofs.laws.unnamed_users_are_alike.Goals as goal

pub returns : goal.returns
returns c = laws.unnamed_users_are_alike
