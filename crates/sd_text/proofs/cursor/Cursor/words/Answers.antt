use Rattle.sd_text.specs.Sddl.{words, dacl_words, with_word, no_words}
use Rattle.sd_text.proofs.Parts.{named_takes}
use Rattle.sd_text.proofs.Tables.{run_more, run_end}
use Rattle.sd_text.proofs.cursor.Cursor.words.Goals as goal

pub words-smaller : goal.words-smaller
words-smaller c = named_takes dacl_words c.words.self.rest.now c.in-Some.word c.name.new.self.rest.now c.in-Some.ensures.some

pub words-preserved : goal.words-preserved
words-preserved c = rw c.with-words.ensures (run_more dacl_words with_word no_words c.args.self.now.rest.now c.words.words c.words.self.rest.now c.in-Some.word c.name.new.self.rest.now c.words.invariant c.in-Some.ensures.some)

pub returns-in-None : goal.returns-in-None
unfolding words
returns-in-None c = let p = c.in-None.ensures.none in rw p.1 (run_end dacl_words with_word no_words c.args.self.now.rest.now c.words.words c.words.self.rest.now c.words.invariant p.0)
