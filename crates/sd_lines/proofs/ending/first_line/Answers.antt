use Rattle.sd_lines.proofs.Cited.{[], ap, append-nil, arith, length, lines_in, nat_tests, nil_from_length, sym, take_rest, ◌++◌, ◌<◌, ◌∙◌, ◌≡◌}
use Rattle.sd_lines.proofs.Cutting.{lines_cut, lines_last, no_lines}
use Rattle.sd_lines.proofs.ending.first_line.Goals as goal

pub returns-then-is_empty-clause-lines : goal.returns-then-is_empty-clause-lines
returns-then-is_empty-clause-lines c =
    let s = c.split.ensures in
    let nothing : c.split.result.1.now ≡ [] = nil_from_length _ (let test = sym c.is_empty.ensures ∙ c.if-is_empty.true in grind (arith, nat_tests)) in
    let whole : c.args.text.now ≡ c.split.result.0.now = s.parts ∙ ap (λ l. c.split.result.0.now ++ l) nothing ∙ append-nil _ in
    rw (nothing, no_lines c.args.ending)
    (ap (lines_in c.args.ending) whole ∙ lines_last c.args.ending _ s.none (rw whole at c.requires))

pub returns-else-is_empty-clause-lines : goal.returns-else-is_empty-clause-lines
returns-else-is_empty-clause-lines c =
    let s = c.split.ensures in
    let some : 0 < length c.split.result.1.now = let test = sym c.is_empty.ensures ∙ c.if-is_empty.false in grind (arith, nat_tests) in
    rw (take_rest c.split.result.1.now 1, c.line.ensures)
    (ap (lines_in c.args.ending) (s.parts ∙ ap (λ l. c.split.result.0.now ++ l) (s.end some)) ∙ lines_cut c.args.ending _ _ s.none)
