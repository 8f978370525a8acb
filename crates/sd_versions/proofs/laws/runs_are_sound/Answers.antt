use Rattle.sd_versions.proofs.Moves.{runs_are_sound}
use Rattle.sd_versions.proofs.laws.runs_are_sound.Goals as goal

pub returns : goal.returns
returns c = runs_are_sound
