use Rattle.sd_blocks.proofs.Cited.{arith, down}
use Rattle.sd_blocks.proofs.Shifts.{moved_more, left_more, left_same}
use Rattle.sd_blocks.proofs.shift.move_down.Goals as goal

pub move_down-requires : goal.move_down-requires
move_down-requires g c =
    let same = left_same c.args.blocks.now c.loop-block.blocks c.loop-block.block-index c.block-item.result c.loop-block.invariant.left in
    rw same (c.requires c.loop-block.block-index c.block-item.result (omega arith))

pub loop-block-preserved : goal.loop-block-preserved
loop-block-preserved g c =
    let same = left_same c.args.blocks.now c.loop-block.blocks c.loop-block.block-index c.block-item.result c.loop-block.invariant.left in
    record {
      done = moved_more down c.args.blocks.now c.loop-block.blocks c.loop-block.block-index c.block-item.result c.move_down.new.self (omega arith) (omega arith) c.loop-block.invariant.done same c.move_down.ensures;
      left = left_more c.args.blocks.now c.loop-block.blocks c.loop-block.block-index c.move_down.new.self c.loop-block.invariant.left;
    }
