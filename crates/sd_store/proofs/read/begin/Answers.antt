use Rattle.sd_store.proofs.Keeping.{looks}
use Rattle.sd_store.proofs.read.begin.Goals as goal

pub enter_as-requires : goal.enter_as-requires
enter_as-requires g c = looks _ _ _
