-- The descendants so far have their accesses.
use Rattle.sd_analysis.proofs.Cited.{All, DescendantAccess, IsDescendantAccess, map, take, ◌≡◌}
use Rattle.sd_analysis.proofs.descendants_who.who_descendants.Given as goal

abbrev pub invariant-loop-descendant : goal.invariant-loop-descendant
invariant-loop-descendant l = record {
  each : map (λ (c : DescendantAccess). c.descendant) l.all.items ≡ take l.descendant-index l.descendants;
  right : All (IsDescendantAccess l.mapping l.base l.entries l.rights) l.all.items;
}
