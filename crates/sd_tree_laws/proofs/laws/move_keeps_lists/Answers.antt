use Rattle.sd_tree_laws.proofs.MovedLists as laws
use Rattle.sd_tree_laws.proofs.laws.move_keeps_lists.Goals as goal

pub returns-clause-protected : goal.returns-clause-protected
returns-clause-protected c = laws.protected_keep_lists

pub returns-clause-null : goal.returns-clause-null
returns-clause-null c = laws.null_keep_lists

pub returns-clause-renamed : goal.returns-clause-renamed
returns-clause-renamed c = laws.renamed_keep_lists
