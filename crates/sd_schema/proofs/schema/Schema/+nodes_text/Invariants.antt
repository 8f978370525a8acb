-- Each call has a shorter text.
use Rattle.std.proofs.Common.{length}
use Rattle.sd_schema.proofs.schema.Schema.+nodes_text.Given as goal

abbrev pub decreases-nodes_text : goal.decreases-nodes_text
decreases-nodes_text l = length l.text.now
