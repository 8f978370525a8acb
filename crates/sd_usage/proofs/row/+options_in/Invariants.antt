-- Each call has fewer rows.
use Rattle.std.proofs.Common.{length}
use Rattle.sd_usage.proofs.row.+options_in.Given as goal

abbrev pub decreases-options_in : goal.decreases-options_in
decreases-options_in l = length l.rows.now
