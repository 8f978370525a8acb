-- Each call has fewer words.
use Rattle.std.proofs.Common.{length}
use Rattle.sd_schema.proofs.schema.Schema.+words_from.Given as goal

abbrev pub decreases-words_from : goal.decreases-words_from
decreases-words_from l = length l.words.now
