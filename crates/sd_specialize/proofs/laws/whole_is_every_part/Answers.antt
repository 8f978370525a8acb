use Rattle.sd_specialize.proofs.Chains.{whole_is_every_part}
use Rattle.sd_specialize.proofs.laws.whole_is_every_part.Goals as goal

pub returns : goal.returns
returns c = whole_is_every_part
