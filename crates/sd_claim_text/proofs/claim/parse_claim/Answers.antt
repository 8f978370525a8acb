use Rattle.std.proofs.Common.{arith}
use Rattle.std.specs.Prelude.{codes}
use Rattle.sd_claim_text.proofs.Lengths.{letters_take}
use Rattle.sd_claim_text.proofs.claim.parse_claim.Goals as goal

pub returns-in_err-claim-clause-within : goal.returns-in_err-claim-clause-within
returns-in_err-claim-clause-within c =
    let first = letters_take (codes "(") c.args.cursor.now.rest.now c.word.new.self.rest.now c.in_ok-word.ensures in
    let second = letters_take (codes ",") c.parse_name.new.cursor.rest.now c.word-2.new.self.rest.now c.in_ok-word-2.ensures in
    let third = letters_take (codes ",") c.parse_type.new.cursor.rest.now c.word-3.new.self.rest.now c.in_ok-word-3.ensures in
    omega (arith, first, second, third)

pub returns-clause-within : goal.returns-clause-within
returns-clause-within c =
    let first = letters_take (codes "(") c.args.cursor.now.rest.now c.word.new.self.rest.now c.in_ok-word.ensures in
    let second = letters_take (codes ",") c.parse_name.new.cursor.rest.now c.word-2.new.self.rest.now c.in_ok-word-2.ensures in
    let third = letters_take (codes ",") c.parse_type.new.cursor.rest.now c.word-3.new.self.rest.now c.in_ok-word-3.ensures in
    omega (arith, first, second, third)
