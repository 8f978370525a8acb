use Rattle.sd_specialize.proofs.PlainStays.{plain_stays_plain}
use Rattle.sd_specialize.proofs.laws.plain_stays_plain.Goals as goal

pub returns : goal.returns
returns c = plain_stays_plain
