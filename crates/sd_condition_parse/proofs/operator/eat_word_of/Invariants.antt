-- None of the words so far is there.
use Rattle.sd_condition_parse.proofs.Cited.{drop, rows, worded, ◌≡◌}
use Rattle.sd_condition_parse.proofs.operator.eat_word_of.Given as goal

abbrev pub invariant-loop-letters : goal.invariant-loop-letters
invariant-loop-letters l = record {
  still : l.cursor.rest.now ≡ l.fn.cursor.rest.now;
  none : worded (rows l.words) l.fn.cursor.rest.now ≡ worded (rows (drop l.letters-index l.words)) l.fn.cursor.rest.now;
}
