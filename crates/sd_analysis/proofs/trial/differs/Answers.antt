-- Verdicts that grant different bits are different.
use Rattle.sd_analysis.proofs.Cited.{Ace, List, Some, add-one, ap, arith, drop, eq-eqb, false≢true, length, length-drop, not-true, suc, sym, take, take_all, verdict, ◌++◌, ◌+◌, ◌-◌, ◌∙◌, ◌≡◌}
use Rattle.sd_analysis.specs.Effect.{granted_by}
use Rattle.sd_analysis.proofs.trial.differs.Goals as goal

pub returns : goal.returns
returns c = λ differs same.
    let es : List Ace = c.args.case.now.entries.now in
    let place = c.args.place in
    let back : take (length es - (place + 1)) (drop (place + 1) es) ≡ drop (suc place) es =
    take_all (length es - (place + 1)) (drop (place + 1) es) (omega (arith, length-drop (place + 1) es)) ∙ ap (λ n. drop n es) (add-one place) in
    let one : c.check_parts-whole.result ≡ c.check_joined-others.result =
    c.check_parts-whole.ensures ∙ sym same
    ∙ ap (λ (rest : List Ace). verdict c.args.case.now.owner.now (Some (take place es ++ rest)) c.args.case.now.mapping.now c.args.token.now 0x02000000) (sym back)
    ∙ sym c.check_joined-others.ensures in
    let equal : c.bits-before.result ≡ c.bits-after.result =
    c.bits-before.ensures ∙ c.granted_by.ensures ∙ ap granted_by one ∙ sym c.granted_by-2.ensures ∙ sym c.bits-after.ensures in
    false≢true (sym (not-true _ differs) ∙ eq-eqb _ _ equal)
