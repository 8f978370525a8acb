use Rattle.sd_accounts.proofs.LawsHold.{order_holds}
use Rattle.sd_accounts.proofs.laws.order_of_rows_does_not_matter.Goals as goal

pub returns : goal.returns
returns c = order_holds
