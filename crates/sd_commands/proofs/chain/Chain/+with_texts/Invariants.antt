-- Each call has fewer texts.
use Rattle.sd_commands.proofs.Cited.{length}
use Rattle.sd_commands.proofs.chain.Chain.+with_texts.Given as goal

abbrev pub decreases-with_texts : goal.decreases-with_texts
decreases-with_texts l = length l.texts.now
