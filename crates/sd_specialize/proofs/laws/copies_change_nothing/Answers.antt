use Rattle.sd_specialize.proofs.CopiesStand.{copies_change_nothing}
use Rattle.sd_specialize.proofs.laws.copies_change_nothing.Goals as goal

pub returns : goal.returns
returns c = copies_change_nothing
