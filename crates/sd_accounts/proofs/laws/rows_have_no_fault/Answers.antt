use Rattle.sd_accounts.proofs.LawsHold.{no_fault_holds}
use Rattle.sd_accounts.proofs.laws.rows_have_no_fault.Goals as goal

pub returns : goal.returns
returns c = no_fault_holds
