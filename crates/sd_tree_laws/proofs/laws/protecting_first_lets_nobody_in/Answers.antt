use Rattle.sd_tree_laws.proofs.ProtectedFirst as laws
use Rattle.sd_tree_laws.proofs.laws.protecting_first_lets_nobody_in.Goals as goal

pub returns-clause-lists : goal.returns-clause-lists
returns-clause-lists c = laws.keeps_lists

pub returns-clause-bits : goal.returns-clause-bits
returns-clause-bits c = laws.lets_nobody_in

pub returns-clause-requests : goal.returns-clause-requests
returns-clause-requests c = laws.grants_no_new_request
