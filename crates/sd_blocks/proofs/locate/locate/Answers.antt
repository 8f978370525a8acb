use Rattle.std.proofs.Common.{arith, ◌-◌, ◌/◌, ◌<◌, ◌+◌, length}
use Rattle.sd_blocks.proofs.Starts.{start_here, block_found}
use Rattle.sd_blocks.proofs.locate.locate.Goals as goal

pub loop-high-preserved-then-start-at : goal.loop-high-preserved-then-start-at
loop-high-preserved-then-start-at g c =
    let inside : (c.loop-high.low + (c.loop-high.high - c.loop-high.low) / 2) < length c.args.blocks.now = omega arith in
    let start = start_here c.args.blocks.now (c.loop-high.low + (c.loop-high.high - c.loop-high.low) / 2) c.index-blocks-middle.result c.start.result c.requires.starts inside c.index-blocks-middle.is c.start.ensures in
    record { order = omega arith; inside = omega arith; low = omega (arith, start); high = c.loop-high.invariant.high }

pub loop-high-preserved : goal.loop-high-preserved
loop-high-preserved g c =
    let inside : (c.loop-high.low + (c.loop-high.high - c.loop-high.low) / 2) < length c.args.blocks.now = omega arith in
    let start = start_here c.args.blocks.now (c.loop-high.low + (c.loop-high.high - c.loop-high.low) / 2) c.index-blocks-middle.result c.start.result c.requires.starts inside c.index-blocks-middle.is c.start.ensures in
    record { order = omega arith; inside = omega arith; low = c.loop-high.invariant.low; high = λ _. omega (arith, start) }

pub returns : goal.returns
returns g c = block_found _ _ _ c.loop-high.high c.requires.starts c.requires.within (omega arith) (omega arith) (omega arith) (omega arith) c.loop-high.invariant.high
