use Rattle.std.proofs.Common.{arith, sym, refl}
use Rattle.sd_text.proofs.Letters.{begins_matches, matches_at, matches_end}
use Rattle.sd_text.proofs.cursor.begins.Goals as goal

pub returns-then-not-is_letter-clause-value : goal.returns-then-not-is_letter-clause-value
returns-then-not-is_letter-clause-value c = rw (begins_matches c.args.text.now c.args.letters.now (sym c.if-is_empty.ensures), c.loop-i.invariant, matches_at c.args.text.now c.args.letters.now c.loop-i.i (omega arith) (omega arith), sym c.if-not-is_letter.ensures) refl

pub returns-clause-value : goal.returns-clause-value
returns-clause-value c = rw (begins_matches c.args.text.now c.args.letters.now (sym c.if-is_empty.ensures), c.loop-i.invariant, matches_end c.args.text.now c.args.letters.now c.loop-i.i (omega arith)) refl
