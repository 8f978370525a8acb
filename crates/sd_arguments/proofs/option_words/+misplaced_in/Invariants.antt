-- Each call has fewer words.
use Rattle.std.proofs.Common.{length}
use Rattle.sd_arguments.proofs.option_words.+misplaced_in.Given as goal

abbrev pub decreases-misplaced_in : goal.decreases-misplaced_in
decreases-misplaced_in l = length l.words.now
