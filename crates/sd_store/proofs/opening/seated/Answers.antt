use Rattle.sd_store.proofs.Keeping.{admits}
use Rattle.sd_store.proofs.opening.seated.Goals as goal

pub reader-requires : goal.reader-requires
reader-requires g c = admits _
