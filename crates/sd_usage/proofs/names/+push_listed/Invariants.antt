-- Each call has fewer names.
use Rattle.std.proofs.Common.{length}
use Rattle.sd_usage.proofs.names.+push_listed.Given as goal

abbrev pub decreases-push_listed : goal.decreases-push_listed
decreases-push_listed l = length l.names.now
