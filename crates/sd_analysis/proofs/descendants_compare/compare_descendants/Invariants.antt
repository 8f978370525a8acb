-- The descendants so far have their changes.
use Rattle.sd_analysis.proofs.Cited.{All, DescendantChange, IsDescendantChange, map, take, ◌≡◌}
use Rattle.sd_analysis.proofs.descendants_compare.compare_descendants.Given as goal

abbrev pub invariant-loop-descendant : goal.invariant-loop-descendant
invariant-loop-descendant l = record {
  each : map (λ (c : DescendantChange). c.descendant) l.changes.items ≡ take l.descendant-index l.descendants;
  right : All (IsDescendantChange l.mapping l.base l.old l.new) l.changes.items;
}
