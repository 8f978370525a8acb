use Rattle.sd_versions.proofs.Cited.{Machine, ap, length, with_look, ◌∙◌}
use Rattle.sd_versions.proofs.Keeping.{look_set}
use Rattle.sd_versions.proofs.desk.Desk.look.Goals as goal

pub returns-clause-floor : goal.returns-clause-floor
returns-clause-floor c =
    look_set c.self.inside.tree c.self.inside.floors.items c.args.reader c.len-seen.result (c.len-seen.ensures.length ∙ ap length c.published.ensures.journal)
    ∙ ap (λ (m : Machine). with_look m c.args.reader) c.self.view_is
