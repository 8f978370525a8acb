use Rattle.sd_c.proofs.Cited.{Edit, Err, IsNotEdited, Kept, NotDone, Ok, inl, inr, rules, subst, ◌≡◌}
use Rattle.sd_c.proofs.stores.edit_judged.Goals.{in-Ok, in-Err}
use Rattle.sd_c.proofs.stores.edit_judged.Goals as goal

pub returns-clause-answer : goal.returns-clause-answer
returns-clause-answer c = let a = c.args in elim c.match-judged.branch [
  | in-Ok w ↦ inl (search rules, search rules, search rules)
  | in-Err w ↦
      let Right : Kept → Type 0 = λ kept. IsNotEdited (λ (said : Edit). a.edit ≡ Ok said) (λ (why : NotDone). a.edit ≡ Err why) kept w.in-Err.why in
      inr (inl (w.in-Err.why, search rules, subst Right (search rules) w.in-Err.ensures.err, search rules))
]
