-- Each part takes no more than the text has.
use Rattle.sd_condition_parse.proofs.Cited.{arith, codes, shorter, sid, word}
use Rattle.sd_condition_parse.proofs.value.parse_sid.Goals as goal

pub returns-clause-within : goal.returns-clause-within
returns-clause-within c =
    let opening = shorter (word (codes "SID(")) c.args.cursor.now.rest.now tt c.word.new.self.rest.now c.in_ok-word.ensures in
    let middle = shorter (sid c.args.known) c.word.new.self.rest.now c.in_ok-sid.sid c.sid.new.self.rest.now c.in_ok-sid.ensures in
    let closing = shorter (word (codes ")")) c.sid.new.self.rest.now tt c.word-2.new.self.rest.now c.in_ok-word-2.ensures in
    omega arith
