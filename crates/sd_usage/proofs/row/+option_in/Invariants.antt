-- Each call has fewer rows.
use Rattle.std.proofs.Common.{length}
use Rattle.sd_usage.proofs.row.+option_in.Given as goal

abbrev pub decreases-option_in : goal.decreases-option_in
decreases-option_in l = length l.rows.now
