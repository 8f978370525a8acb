use Rattle.sd_blocks.proofs.Cited.{lowered, map, take, ◌≡◌}
use Rattle.sd_blocks.proofs.level.share_blocks.Given as goal

abbrev pub invariant-loop-block : goal.invariant-loop-block
invariant-loop-block g l = l.shared.items ≡ map (lowered l.by) (take l.block-index l.blocks)
