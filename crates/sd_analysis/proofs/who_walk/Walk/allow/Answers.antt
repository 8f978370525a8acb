-- The SID was denied, or has an alternative.
use Rattle.sd_analysis.proofs.Cited.{or_left, or_right, sym, ◌∙◌}
use Rattle.sd_analysis.proofs.Walks.{allow_is_known}
use Rattle.sd_analysis.proofs.who_walk.Walk.allow.Goals as goal
use Rattle.sd_analysis.proofs.who_walk.Walk.allow.Goals.{then-is_denied-via-then-is_denied, then-is_denied-via-else-is_denied+then-has_alternative}

pub returns-then-is_denied : goal.returns-then-is_denied
returns-then-is_denied c = λ granted undecided is. elim c.then-is_denied.branch [
  | then-is_denied-via-then-is_denied w ↦ allow_is_known c.args.base.now granted undecided c.args.self.now c.args.sid.now c.requires
      (or_left _ _ (sym c.is_denied.ensures ∙ w.if-is_denied.true)) is
  | then-is_denied-via-else-is_denied+then-has_alternative w ↦ allow_is_known c.args.base.now granted undecided c.args.self.now c.args.sid.now c.requires
      (or_right _ _ (sym w.has_alternative.ensures ∙ w.if-has_alternative.true)) is
]
