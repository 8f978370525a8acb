use Rattle.sd_blocks.proofs.Cited.{AllWithin, Greater, IsNonDecreasingBy, Less, joined, length, ordering_index, take, ◌-◌, ◌<◌, ◌≡◌, ◌≤◌}
use Rattle.sd_blocks.proofs.search_blocks.search_blocks.Given as goal

abbrev pub invariant-loop-high : goal.invariant-loop-high
invariant-loop-high g l = record {
  order : l.low < l.high;
  inside : l.high ≤ length l.blocks;
  below : IsNonDecreasingBy (λ y. ordering_index (g.S.Sought.ord l.sought y)) (joined l.blocks) → AllWithin (λ y. g.S.Sought.ord l.sought y ≡ Less) (joined l.blocks) 0 (length (joined (take l.low l.blocks)));
  above : IsNonDecreasingBy (λ y. ordering_index (g.S.Sought.ord l.sought y)) (joined l.blocks) → AllWithin (λ y. g.S.Sought.ord l.sought y ≡ Greater) (joined l.blocks) (length (joined (take l.high l.blocks))) (length (joined l.blocks));
}

abbrev pub decreases-loop-high : goal.decreases-loop-high
decreases-loop-high g l = l.high - l.low
