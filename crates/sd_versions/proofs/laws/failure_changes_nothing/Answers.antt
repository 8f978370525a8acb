use Rattle.sd_versions.proofs.Moves.{failure_changes_nothing}
use Rattle.sd_versions.proofs.laws.failure_changes_nothing.Goals as goal

pub returns : goal.returns
returns c = failure_changes_nothing
