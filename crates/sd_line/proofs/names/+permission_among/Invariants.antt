-- Each call has fewer rows.
use Rattle.std.proofs.Common.{length}
use Rattle.sd_line.proofs.names.+permission_among.Given as goal

abbrev pub decreases-permission_among : goal.decreases-permission_among
decreases-permission_among l = length l.rows.now
