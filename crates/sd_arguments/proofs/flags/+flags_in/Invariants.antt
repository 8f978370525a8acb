-- Each call has fewer words.
use Rattle.std.proofs.Common.{length}
use Rattle.sd_arguments.proofs.flags.+flags_in.Given as goal

abbrev pub decreases-flags_in : goal.decreases-flags_in
decreases-flags_in l = length l.words.now
