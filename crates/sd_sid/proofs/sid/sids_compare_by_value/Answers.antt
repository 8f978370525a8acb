use Rattle.sd_sid.proofs.Compared.{equal_by_value, ordered_by_value}
use Rattle.sd_sid.proofs.sid.sids_compare_by_value.Goals as goal

pub returns-clause-equal : goal.returns-clause-equal
returns-clause-equal c = equal_by_value

pub returns-clause-ordered : goal.returns-clause-ordered
returns-clause-ordered c = ordered_by_value
