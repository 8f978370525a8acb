use Rattle.sd_script.proofs.AsChecked as laws
use Rattle.sd_script.proofs.laws.deletes_as_checked.Goals as goal

pub returns : goal.returns
returns c = laws.deletes_as_checked
