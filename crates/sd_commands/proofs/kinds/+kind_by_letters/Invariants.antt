-- Each call has fewer rows.
use Rattle.std.proofs.Common.{length}
use Rattle.sd_commands.proofs.kinds.+kind_by_letters.Given as goal

abbrev pub decreases-kind_by_letters : goal.decreases-kind_by_letters
decreases-kind_by_letters l = length l.rows.now
