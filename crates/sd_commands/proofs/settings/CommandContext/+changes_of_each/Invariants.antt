-- Each call has fewer lists.
use Rattle.sd_commands.proofs.Cited.{length}
use Rattle.sd_commands.proofs.settings.CommandContext.+changes_of_each.Given as goal

abbrev pub decreases-changes_of_each : goal.decreases-changes_of_each
decreases-changes_of_each l = length l.lists.now
