use Rattle.sd_text.proofs.Cited.{dacl_words, length, no_words, with_word}
use Rattle.sd_text.proofs.Tables.{IsTogether}
use Rattle.sd_text.proofs.cursor.Cursor.words.Given as goal

-- the words that have been read
abbrev pub invariant-words : goal.invariant-words
invariant-words l = IsTogether dacl_words with_word no_words l.fn.self.rest.now l.words l.self.rest.now

abbrev pub decreases-words : goal.decreases-words
decreases-words l = length l.self.rest.now
