use Rattle.sd_versions.proofs.Moves.{floors_never_fall}
use Rattle.sd_versions.proofs.laws.floors_never_fall.Goals as goal

pub returns : goal.returns
returns c = floors_never_fall
