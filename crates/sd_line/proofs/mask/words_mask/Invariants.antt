-- The words so far are joined, and those that are left decide the text.
use Rattle.sd_line.proofs.Cited.{Utf8, length, shadow}
use Rattle.sd_line.proofs.WordsLeft.{Left}
use Rattle.sd_line.proofs.mask.words_mask.Given as goal

abbrev pub invariant-words : goal.invariant-words
invariant-words l = shadow (Utf8 l.rest) × Left l.kind l.text l.bits l.start l.rest

abbrev pub decreases-words : goal.decreases-words
decreases-words l = length l.rest
