use Rattle.sd_tree_laws.proofs.Keeping.{keeping_lets_nobody_in}
use Rattle.sd_tree_laws.proofs.KeptGrants.{keeping_grants_no_new_request}
use Rattle.sd_tree_laws.proofs.laws.keeping_lets_nobody_in.Goals as goal

pub returns-clause-bits : goal.returns-clause-bits
returns-clause-bits c = keeping_lets_nobody_in

pub returns-clause-requests : goal.returns-clause-requests
returns-clause-requests c = keeping_grants_no_new_request
