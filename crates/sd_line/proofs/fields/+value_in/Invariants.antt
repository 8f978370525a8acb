-- Each call has a part less.
use Rattle.std.proofs.Common.{length}
use Rattle.sd_line.proofs.fields.+value_in.Given as goal

abbrev pub decreases-value_in : goal.decreases-value_in
decreases-value_in l = length l.parts.now
