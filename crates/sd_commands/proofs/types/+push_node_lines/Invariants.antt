-- Each call has fewer verdicts.
use Rattle.sd_commands.proofs.Cited.{length}
use Rattle.sd_commands.proofs.types.+push_node_lines.Given as goal

abbrev pub decreases-push_node_lines : goal.decreases-push_node_lines
decreases-push_node_lines l = length l.verdicts.now
