use Rattle.sd_blocks.proofs.Cited.{down, drop, map, take, ◌≡◌}
use Rattle.sd_blocks.proofs.shift.move_down.Given as goal

abbrev pub invariant-loop-block : goal.invariant-loop-block
invariant-loop-block g l = record { done : take l.block-index l.blocks ≡ map down (take l.block-index l.initial.blocks); left : drop l.block-index l.blocks ≡ drop l.block-index l.initial.blocks }
