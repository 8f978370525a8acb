use Rattle.sd_answer.proofs.Cited.{codes, inr, refl, sym, ◌∙◌}
use Rattle.sd_answer.proofs.Words.{apart, neither}
use Rattle.sd_answer.proofs.word.read_word.Goals as goal

pub returns-clause-word : goal.returns-clause-word
returns-clause-word c = inr (
  λ one is. apart c.args.text.now (codes "+security") (sym c.eq.ensures ∙ c.if-eq.false) is.0,
  inr (
    λ one is. apart c.args.text.now (codes "+take") (sym c.eq-2.ensures ∙ c.if-eq-2.false) is.0,
    inr (
      λ one is. apart c.args.text.now (codes "user=deny") (sym c.eq-3.ensures ∙ c.if-eq-3.false) is.0,
      inr (λ one is. c.in_default.ensures.none is.0 is.1, (c.in_ok-sid.sid, c.in_ok-sid.ensures.found, refl)),
    ),
  ),
)

pub returns-in_err-sid-clause-none : goal.returns-in_err-sid-clause-none
returns-in_err-sid-clause-none c = rw c.from_residual.ensures (neither _ _
    (λ one is. apart c.args.text.now (codes "+security") (sym c.eq.ensures ∙ c.if-eq.false) is.0) (neither _ _
    (λ one is. apart c.args.text.now (codes "+take") (sym c.eq-2.ensures ∙ c.if-eq-2.false) is.0) (neither _ _
    (λ one is. apart c.args.text.now (codes "user=deny") (sym c.eq-3.ensures ∙ c.if-eq-3.false) is.0) (neither _ _
    (λ one is. c.in_default.ensures.none is.0 is.1) (λ one is. c.in_err-sid.ensures.none is.0 is.1)))))
