use Rattle.sd_script.proofs.AsChecked.{begins_as_check}
use Rattle.sd_script.proofs.laws.why_begins_as_check.Goals as goal

pub returns : goal.returns
returns c = begins_as_check
