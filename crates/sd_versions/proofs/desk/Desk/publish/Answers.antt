use Rattle.sd_versions.proofs.Cited.{Machine, Publish, Published, Steps, ap, length, machine_of, subst, ◌∙◌}
use Rattle.sd_versions.proofs.Keeping.{published_steps, published_within}
use Rattle.sd_versions.proofs.desk.Desk.publish.Goals as goal

pub invariant_of-self : goal.invariant_of-self
invariant_of-self c =
    let e = c.publish.ensures in
    published_within c.self.inside.tree c.publish.new.self c.self.inside.floors.items e.opening e.published e.pending c.self.invariant

pub returns-clause-step : goal.returns-clause-step
returns-clause-step c =
    let t = c.self.inside.tree in
    let new = c.publish.new.self in
    let ns = c.self.inside.floors.items in
    let told = c.len.result in
    let e = c.publish.ensures in
    let P : Machine → Type 0 = λ m. Steps m Publish (Published told) (machine_of new ns) in
    subst P c.self.view_is (published_steps t new ns e.opening e.published e.pending c.self.invariant told (c.len.ensures.length ∙ ap length c.published.ensures.journal))
