use Rattle.sd_store.proofs.Cited.{IsUnderWay, length, ◌-◌}
use Rattle.sd_store.proofs.worker.fill.Given as goal

abbrev pub invariant-loop-at : goal.invariant-loop-at
invariant-loop-at g l = IsUnderWay g.J.StoreId.opening l.queries l.worker l.step l.at l.initial.checker l.checker l.answers.items

abbrev pub decreases-loop-at : goal.decreases-loop-at
decreases-loop-at g l = length l.queries - l.at
