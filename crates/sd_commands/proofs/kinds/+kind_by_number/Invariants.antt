-- Each call has fewer rows.
use Rattle.std.proofs.Common.{length}
use Rattle.sd_commands.proofs.kinds.+kind_by_number.Given as goal

abbrev pub decreases-kind_by_number : goal.decreases-kind_by_number
decreases-kind_by_number l = length l.rows.now
