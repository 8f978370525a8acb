-- Each call has fewer rows.
use Rattle.std.proofs.Common.{length}
use Rattle.sd_whole_text.proofs.level.+alias_in.Given as goal

abbrev pub decreases-alias_in : goal.decreases-alias_in
decreases-alias_in l = length l.names.now
