use Rattle.sd_c.proofs.Cited.{IsNotReviewed, IsReviewed, Kept, inl, inr, rules, subst}
use Rattle.sd_c.proofs.review.hudarin_store_review.Goals.{in-Ok, in-Err}
use Rattle.sd_c.proofs.review.hudarin_store_review.Goals as goal

pub returns-clause-answer : goal.returns-clause-answer
returns-clause-answer c = let a = c.args in elim c.match-reviewed.branch [
  | in-Ok w ↦
      let made = subst (λ (kept : Kept). IsReviewed kept a.place w.in-Ok.made) (search rules) w.in-Ok.ensures.ok in
      inl (w.in-Ok.made, search rules, search rules, made, search rules, search rules, search rules)
  | in-Err w ↦
      let why = subst (λ (kept : Kept). IsNotReviewed kept a.place w.in-Err.why) (search rules) w.in-Err.ensures.err in
      inr (inl (w.in-Err.why, search rules, search rules, why, search rules, search rules, search rules))
]
