use Rattle.sd_tree_laws.proofs.Trustees as laws
use Rattle.sd_tree_laws.proofs.laws.trustee_stays_in_the_node.Goals as goal

pub returns-clause-owner : goal.returns-clause-owner
returns-clause-owner c = laws.owner_changes_one_node

pub returns-clause-group : goal.returns-clause-group
returns-clause-group c = laws.group_changes_one_node

pub returns-clause-null : goal.returns-clause-null
returns-clause-null c = laws.keeping_a_null_changes_none
