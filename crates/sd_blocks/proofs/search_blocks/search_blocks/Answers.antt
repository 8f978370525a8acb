use Rattle.std.proofs.Common.{arith, ◌<◌, ◌+◌, ◌-◌, ◌/◌, length, refl}
use Rattle.sd_blocks.proofs.Searched.{some_at, block_end, step_below, step_above, found_first, end_found, end_absent}
use Rattle.sd_blocks.proofs.search_blocks.search_blocks.Goals as goal

pub first-requires : goal.first-requires
first-requires g c =
    let inside : (c.loop-high.low + (c.loop-high.high - c.loop-high.low) / 2) < length c.args.blocks.now = omega arith in
    let some = some_at 0 c.args.blocks.now (c.loop-high.low + (c.loop-high.high - c.loop-high.low) / 2) c.index-blocks-middle.result c.requires.starts inside c.index-blocks-middle.is in
    some

pub loop-high-preserved-in-Less : goal.loop-high-preserved-in-Less
loop-high-preserved-in-Less g c =
    let inside : (c.loop-high.low + (c.loop-high.high - c.loop-high.low) / 2) < length c.args.blocks.now = omega arith in
    record { order = omega arith; inside = omega arith; below = step_below (λ y. g.S.Sought.ord c.args.sought.now y) c.args.blocks.now (c.loop-high.low + (c.loop-high.high - c.loop-high.low) / 2) c.index-blocks-middle.result c.index-blocks-middle.result.1 c.first.result.now c.requires.starts inside c.index-blocks-middle.is refl c.first.ensures c.in-Less.ensures; above = c.loop-high.invariant.above }

pub loop-high-preserved : goal.loop-high-preserved
loop-high-preserved g c =
    let inside : (c.loop-high.low + (c.loop-high.high - c.loop-high.low) / 2) < length c.args.blocks.now = omega arith in
    record { order = omega arith; inside = omega arith; below = c.loop-high.invariant.below; above = step_above (λ y. g.S.Sought.ord c.args.sought.now y) c.args.blocks.now (c.loop-high.low + (c.loop-high.high - c.loop-high.low) / 2) c.index-blocks-middle.result c.index-blocks-middle.result.1 c.first.result.now c.requires.starts inside c.index-blocks-middle.is refl c.first.ensures c.in-Greater.ensures }

pub returns-in-Equal-clause-bound : goal.returns-in-Equal-clause-bound
returns-in-Equal-clause-bound g c =
    let inside : (c.loop-high.low + (c.loop-high.high - c.loop-high.low) / 2) < length c.args.blocks.now = omega arith in
    (found_first (λ y. g.S.Sought.ord c.args.sought.now y) c.args.blocks.now (c.loop-high.low + (c.loop-high.high - c.loop-high.low) / 2) c.index-blocks-middle.result c.index-blocks-middle.result.1 c.first.result.now c.start.result c.requires.starts inside c.index-blocks-middle.is c.start.ensures refl c.first.ensures c.in-Equal.ensures).0

pub returns-in-Equal-clause-position : goal.returns-in-Equal-clause-position
returns-in-Equal-clause-position g c =
    let inside : (c.loop-high.low + (c.loop-high.high - c.loop-high.low) / 2) < length c.args.blocks.now = omega arith in
    (found_first (λ y. g.S.Sought.ord c.args.sought.now y) c.args.blocks.now (c.loop-high.low + (c.loop-high.high - c.loop-high.low) / 2) c.index-blocks-middle.result c.index-blocks-middle.result.1 c.first.result.now c.start.result c.requires.starts inside c.index-blocks-middle.is c.start.ensures refl c.first.ensures c.in-Equal.ensures).1

pub overflow_add-result : goal.overflow_add-result
overflow_add-result g c =
    let inside : c.loop-high.low < length c.args.blocks.now = omega arith in
    let bound = c.in-Ok.ensures.bound in
    let here = block_end c.args.blocks.now c.loop-high.low c.index-blocks-low.result c.start-start.result c.requires.starts inside c.index-blocks-low.is c.start-start.ensures in
    omega (arith, bound, here, c.requires.fits)

pub returns-in-Ok-clause-bound : goal.returns-in-Ok-clause-bound
returns-in-Ok-clause-bound g c =
    let inside : c.loop-high.low < length c.args.blocks.now = omega arith in
    let bound = c.in-Ok.ensures.bound in
    let here = block_end c.args.blocks.now c.loop-high.low c.index-blocks-low.result c.start-start.result c.requires.starts inside c.index-blocks-low.is c.start-start.ensures in
    omega (arith, bound, here)

pub overflow_add-result-in-Err : goal.overflow_add-result-in-Err
overflow_add-result-in-Err g c =
    let inside : c.loop-high.low < length c.args.blocks.now = omega arith in
    let bound = c.in-Err.ensures.bound in
    let here = block_end c.args.blocks.now c.loop-high.low c.index-blocks-low.result c.start-start.result c.requires.starts inside c.index-blocks-low.is c.start-start.ensures in
    omega (arith, bound, here, c.requires.fits)

pub returns-in-Err-clause-bound : goal.returns-in-Err-clause-bound
returns-in-Err-clause-bound g c =
    let inside : c.loop-high.low < length c.args.blocks.now = omega arith in
    let bound = c.in-Err.ensures.bound in
    let here = block_end c.args.blocks.now c.loop-high.low c.index-blocks-low.result c.start-start.result c.requires.starts inside c.index-blocks-low.is c.start-start.ensures in
    omega (arith, bound, here)

pub returns-in-Ok-clause-position : goal.returns-in-Ok-clause-position
returns-in-Ok-clause-position g c =
    let inside : c.loop-high.low < length c.args.blocks.now = omega arith in
    let bound = c.in-Ok.ensures.bound in
    let position = c.in-Ok.ensures.position in
    end_found (λ y. g.S.Sought.ord c.args.sought.now y) c.args.blocks.now c.loop-high.low c.index-blocks-low.result c.start-start.result c.in-Ok.at c.requires.starts inside c.index-blocks-low.is c.start-start.ensures bound position

pub returns-in-Err-clause-position : goal.returns-in-Err-clause-position
returns-in-Err-clause-position g c =
    let inside : c.loop-high.low < length c.args.blocks.now = omega arith in
    let bound = c.in-Err.ensures.bound in
    let position = c.in-Err.ensures.position in
    end_absent (λ y. g.S.Sought.ord c.args.sought.now y) c.args.blocks.now c.loop-high.low c.loop-high.high c.index-blocks-low.result c.start-start.result c.in-Err.at c.requires.starts inside (omega arith) (omega arith) c.index-blocks-low.is c.start-start.ensures bound position c.loop-high.invariant.below c.loop-high.invariant.above
