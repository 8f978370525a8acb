use Rattle.sd_c.proofs.Cited.{Kept, inl, inr, rules, subst}
use Rattle.sd_c.specs.Views.{IsFormAt, IsNoFormAt}
use Rattle.sd_c.proofs.views.hudarin_view_descriptor.Goals.{in-Ok, in-Err}
use Rattle.sd_c.proofs.views.hudarin_view_descriptor.Goals as goal

pub returns-clause-answer : goal.returns-clause-answer
returns-clause-answer c = let a = c.args in elim c.match-form_at.branch [
  | in-Ok w ↦
      let Right : Kept → Type 0 = λ kept. IsFormAt kept a.path.now w.in-Ok.bytes.items in
      let form : Right a.view.now.seal.kept = subst Right (search rules) w.in-Ok.ensures.ok in
      inl (w.in-Ok.bytes.items, search rules, form, search rules)
  | in-Err w ↦
      let Right : Kept → Type 0 = λ kept. IsNoFormAt kept a.path.now w.in-Err.why in
      let why : Right a.view.now.seal.kept = subst Right (search rules) w.in-Err.ensures.err in
      inr (inl (w.in-Err.why, search rules, why, search rules, search rules))
]
