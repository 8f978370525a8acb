use Rattle.sd_versions.proofs.Moves.{opening_stays}
use Rattle.sd_versions.proofs.laws.opening_stays.Goals as goal

pub returns : goal.returns
returns c = opening_stays
