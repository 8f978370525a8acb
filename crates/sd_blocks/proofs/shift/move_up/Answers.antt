use Rattle.sd_blocks.proofs.Cited.{arith, up}
use Rattle.sd_blocks.proofs.Shifts.{moved_more, left_more, left_same}
use Rattle.sd_blocks.proofs.shift.move_up.Goals as goal

pub move_up-requires : goal.move_up-requires
move_up-requires g c =
    let same = left_same c.args.blocks.now c.loop-block.blocks c.loop-block.block-index c.block-item.result c.loop-block.invariant.left in
    rw same (c.requires c.loop-block.block-index c.block-item.result (omega arith))

pub loop-block-preserved : goal.loop-block-preserved
loop-block-preserved g c =
    let same = left_same c.args.blocks.now c.loop-block.blocks c.loop-block.block-index c.block-item.result c.loop-block.invariant.left in
    record {
      done = moved_more up c.args.blocks.now c.loop-block.blocks c.loop-block.block-index c.block-item.result c.move_up.new.self (omega arith) (omega arith) c.loop-block.invariant.done same c.move_up.ensures;
      left = left_more c.args.blocks.now c.loop-block.blocks c.loop-block.block-index c.move_up.new.self c.loop-block.invariant.left;
    }
