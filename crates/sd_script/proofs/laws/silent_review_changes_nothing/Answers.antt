use Rattle.sd_script.proofs.Silence.{silent_container_passes_down, silent_node_is_unchanged}
use Rattle.sd_script.proofs.laws.silent_review_changes_nothing.Goals as goal

pub returns-clause-node : goal.returns-clause-node
returns-clause-node c = silent_node_is_unchanged

pub returns-clause-container : goal.returns-clause-container
returns-clause-container c = silent_container_passes_down
