use Rattle.sd_commands.proofs.Cited.{arith, length, position_or_len, rules, split_once_first, sym, take_all, ◌==◌, ◌≡◌}
use Rattle.sd_commands.proofs.diagnostic.sid_of.Goals as goal

pub returns-in-Some : goal.returns-in-Some
returns-in-Some c = (rw c.in-Some.is at (split_once_first 61 c.args.word.now c.split_once.result c.split_once.ensures.cases (search rules))).1

pub returns-in-None : goal.returns-in-None
returns-in-None c =
    let word = c.args.word.now in
    let none : position_or_len (λ b. b == 61) word ≡ length word =
    rw c.in-None.is at (split_once_first 61 word c.split_once.result c.split_once.ensures.cases (search rules)) in
    rw none (sym (take_all (length word) word (omega arith)))
