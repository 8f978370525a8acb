-- Each call has fewer rows.
use Rattle.std.proofs.Common.{length}
use Rattle.sd_usage.proofs.row.+command_in.Given as goal

abbrev pub decreases-command_in : goal.decreases-command_in
decreases-command_in l = length l.rows.now
