use Rattle.sd_blocks.proofs.Cited.{drop, map, take, up, ◌≡◌}
use Rattle.sd_blocks.proofs.shift.move_up.Given as goal

abbrev pub invariant-loop-block : goal.invariant-loop-block
invariant-loop-block g l = record { done : take l.block-index l.blocks ≡ map up (take l.block-index l.initial.blocks); left : drop l.block-index l.blocks ≡ drop l.block-index l.initial.blocks }
