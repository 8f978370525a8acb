use Rattle.sd_specialize.proofs.CopiesBring.{markers_bring_their_sids}
use Rattle.sd_specialize.proofs.laws.markers_bring_their_sids.Goals as goal

pub returns : goal.returns
returns c = markers_bring_their_sids
