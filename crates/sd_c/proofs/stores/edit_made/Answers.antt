use Rattle.sd_c.proofs.Cited.{Edit, Err, IsNotEdited, Kept, NotDone, Ok, inl, inr, rules, subst, ◌≡◌}
use Rattle.sd_c.proofs.stores.edit_made.Goals.{in-Ok, in-Err}
use Rattle.sd_c.proofs.stores.edit_made.Goals as goal

pub returns : goal.returns
returns c = let a = c.args in elim c.match-edited.branch [
  | in-Ok w ↦ inl (search rules, search rules, search rules, search rules)
  | in-Err w ↦
      let Right : Kept → Type 0 = λ kept. IsNotEdited (λ (said : Edit). a.edit ≡ Ok said) (λ (why : NotDone). a.edit ≡ Err why) kept w.in-Err.why in
      let why : Right a.store.now.seal.kept = subst Right (search rules) w.in-Err.ensures.0 in
      inr (inl (w.in-Err.why, search rules, why, search rules, search rules))
]
