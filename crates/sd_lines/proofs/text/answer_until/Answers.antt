use Rattle.sd_lines.proofs.Cited.{[], ap, append-nil, append_assoc, arith, inl, inr, nat_tests, nil_from_length, of_form, refl, sym, ◌++◌, ◌∙◌, ◌∷◌}
use Rattle.sd_lines.proofs.InOrder.{joined}
use Rattle.sd_lines.proofs.text.answer_until.Goals as goal
use Rattle.sd_lines.proofs.text.answer_until.Goals.{then-loop-are_over-test+else-not-are_over, else-loop-are_over-test}

pub loop-are_over-preserved : goal.loop-are_over-preserved
loop-are_over-preserved g c =
    let before = c.loop-are_over.invariant in
    let answered = c.in_ok-answer.ensures in
    let line = c.first_line.result.0.now in
    record {
      lines = before.lines ++ line ∷ [];
      added = before.added ++ answered.0;
      cut = before.cut ∙ ap (λ l. before.lines ++ l) c.first_line.ensures.lines ∙ sym (append_assoc before.lines (line ∷ []) _);
      printed = answered.1 ∙ ap (λ l. l ++ answered.0) before.printed ∙ append_assoc _ before.added answered.0;
      answered =
          joined (of_form c.args.form (g.A.AnswersLines.answers c.args.answers.now)) _ _ c.answer.new.state before.lines (line ∷ []) before.added answered.0 before.answered
          (answered.0, c.answer.new.state, [], rw c.asked.ensures at answered.2, (refl, refl), sym (append-nil answered.0));
    }

pub returns-clause-over : goal.returns-clause-over
returns-clause-over g c = elim c.loop-are_over-test.branch [
  | then-loop-are_over-test+else-not-are_over w ↦ inr (record { shown = _; shows = refl; says = record { met = rw (w.if-not-are_over.false) at w.are_over.ensures } })
  | else-loop-are_over-test w ↦ inl (nil_from_length _ (let test = sym c.is_empty.ensures ∙ w.loop-are_over-test.false in grind (arith, nat_tests)))
]
