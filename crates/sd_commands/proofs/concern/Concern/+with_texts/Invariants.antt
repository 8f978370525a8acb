-- Each call has fewer texts between commas.
use Rattle.sd_commands.proofs.Cited.{between_commas, length}
use Rattle.sd_commands.proofs.concern.Concern.+with_texts.Given as goal

abbrev pub decreases-with_texts : goal.decreases-with_texts
decreases-with_texts l = length (between_commas l.text.now)
