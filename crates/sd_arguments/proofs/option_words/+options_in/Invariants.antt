-- Each call has fewer words.
use Rattle.std.proofs.Common.{length}
use Rattle.sd_arguments.proofs.option_words.+options_in.Given as goal

abbrev pub decreases-options_in : goal.decreases-options_in
decreases-options_in l = length l.words.now
