use Rattle.sd_c.proofs.Cited.{Kept, inl, inr, rules, subst}
use Rattle.sd_c.specs.Nodes.{IsNoOwnAt, IsOwnAt}
use Rattle.sd_c.proofs.nodes.hudarin_view_own.Goals.{in-Ok, in-Err}
use Rattle.sd_c.proofs.nodes.hudarin_view_own.Goals as goal

pub returns-clause-answer : goal.returns-clause-answer
returns-clause-answer c = let a = c.args in elim c.match-own_at.branch [
  | in-Ok w ↦
      let Right : Kept → Type 0 = λ kept. IsOwnAt kept a.path.now w.in-Ok.bytes.items w.in-Ok.kind in
      let own : Right a.view.now.seal.kept = subst Right (search rules) w.in-Ok.ensures.ok in
      inl (w.in-Ok.bytes.items, w.in-Ok.kind, search rules, own, search rules, search rules)
  | in-Err w ↦
      let Right : Kept → Type 0 = λ kept. IsNoOwnAt kept a.path.now w.in-Err.why in
      let why : Right a.view.now.seal.kept = subst Right (search rules) w.in-Err.ensures.err in
      inr (inl (w.in-Err.why, search rules, why, search rules, search rules))
]
