use Rattle.sd_tree_laws.proofs.OrderGrants as laws
use Rattle.sd_tree_laws.proofs.laws.order_grants_nothing.Goals as goal

pub returns-clause-grants : goal.returns-clause-grants
returns-clause-grants c = laws.order_grants_nothing

pub returns-clause-limits : goal.returns-clause-limits
returns-clause-limits c = laws.order_keeps_owners_limit
