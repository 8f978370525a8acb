use Rattle.sd_check.proofs.LawProofs.{denied_maximum_is_none}
use Rattle.sd_check.proofs.laws.maximum_is_each_by_itself.Goals as goal

pub returns-clause-none : goal.returns-clause-none
returns-clause-none c = denied_maximum_is_none
