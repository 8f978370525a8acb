-- Each call has fewer rows.
use Rattle.std.proofs.Common.{length}
use Rattle.sd_line.proofs.names.+bits_among.Given as goal

abbrev pub decreases-bits_among : goal.decreases-bits_among
decreases-bits_among l = length l.rows.now
