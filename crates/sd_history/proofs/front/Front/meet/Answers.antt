use Rattle.std.proofs.Common.{ap, subst}
use mathlib.Core.List.{IsPrefix}
use Rattle.sd_history.specs.Chains.{items_from}
use Rattle.sd_history.proofs.Chaining.{comparable, items_prefix}
use Rattle.sd_history.proofs.front.Front.meet.Goals as goal

pub returns : goal.returns
returns g c k =
    let both = c.learn.new.self.log in
    let this : IsPrefix c.self.inside.seen.log both =
    subst (λ l. IsPrefix l both) (ap (λ s. s.log) c.again-both.ensures) c.learn.ensures.2 in
    rw (← c.self.view_is, ← c.other.view_is)
    (comparable _ _ (items_from k both) (items_prefix k c.self.inside.seen.log both this)
    (items_prefix k c.other.inside.seen.log both c.learn.ensures.3))
