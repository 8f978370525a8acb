-- Each call has one less.
use Rattle.std.proofs.Common.{length}
use Rattle.sd_line.proofs.object.+push_strings.Given as goal

abbrev pub decreases-push_strings : goal.decreases-push_strings
decreases-push_strings l = length l.texts.now
