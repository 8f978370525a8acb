use Rattle.sd_accounts.proofs.LawsHold.{way_holds}
use Rattle.sd_accounts.proofs.laws.one_belongs_by_a_way.Goals as goal

pub returns : goal.returns
returns c = way_holds
