-- Without a copy of the entry the descendant's list is the same.
use Rattle.sd_analysis.proofs.Cited.{Ace, List, ap, arith, drop, length, list_of, sym, take, ◌+◌, ◌-◌, ◌==◌, ◌∙◌, ◌≡◌}
use Rattle.sd_analysis.proofs.Alike.{handed_without, inherit_same}
use Rattle.sd_analysis.proofs.effect.differs.Goals as goal

pub returns-then-is_empty-clause-no : goal.returns-then-is_empty-clause-no
returns-then-is_empty-clause-no c = λ none.
    let g = c.args.case.now.mapping.now in
    let es : List Ace = c.args.case.now.entries.now in
    let place = c.args.place in
    let listed = list_of g c.args.descendant in
    let one : 1 ≡ place + 1 - place = omega arith in
    inherit_same g c.args.case.now.base.now (listed es) (listed c.args.others.now)
    (ap listed c.requires.others ∙ handed_without g c.args.descendant es place
    (ap (λ n. n == 0) (ap (λ k. length (listed (take k (drop place es)))) one ∙ ap length (sym c.in_ok-copies.ensures) ∙ sym c.in_ok-copies.copies.ok.0)
    ∙ sym c.is_empty.ensures ∙ c.if-is_empty.true))
