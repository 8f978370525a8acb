-- The text after the key is answered, and the key is the tag.
use Rattle.std.proofs.Common.{◌≡◌, ℕ, List, Some, ap, codes, true, rules, tests}
use Rattle.sd_questions.proofs.each.LineQuestion.answer_in.Goals as goal

pub returns : goal.returns
returns c =
    let parts = c.in-Some-parted.ensures.some in
    let keyed : c.args.self.now.given.key ≡ true = search (rules, tests) in
    rw (keyed, c.in-Some.is, parts.0)
    (ap (λ (key : List ℕ). Some (codes "key", 9, key)) parts.1, rw (← parts.2) c.in_ok-answer_line-3.ensures)
