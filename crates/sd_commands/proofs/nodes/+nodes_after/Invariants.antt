-- Each call has fewer texts between commas.
use Rattle.sd_commands.proofs.Cited.{between_commas, length}
use Rattle.sd_commands.proofs.nodes.+nodes_after.Given as goal

abbrev pub decreases-nodes_after : goal.decreases-nodes_after
decreases-nodes_after l = length (between_commas l.text.now)
