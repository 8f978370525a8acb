-- The owner's alternative stands before any entry.
use Rattle.std.proofs.Common.{false, true, refl}
use Rattle.sd_analysis.proofs.Walks.{implied_first, walk_begins}
use Rattle.sd_analysis.proofs.who_walk.Walk.begin.Goals as goal

pub returns-in_ok-add-in-Some : goal.returns-in_ok-add-in-Some
returns-in_ok-add-in-Some c = rw c.in-Some.is (implied_first c.args.base.now c.in-Some.owner c.add.new.self
    (c.in_ok-add-in-Some.ensures (λ t. false) (λ t. true) (walk_begins c.args.base.now _ c.new.ensures.items c.new-2.ensures.items refl)))
