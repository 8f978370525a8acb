-- Each call has one less.
use Rattle.std.proofs.Common.{length}
use Rattle.sd_answer.proofs.lines.+same_sids.Given as goal

abbrev pub decreases-same_sids : goal.decreases-same_sids
decreases-same_sids l = length l.some.now
