use Rattle.sd_blocks.proofs.Cited.{AreHalves, add-one, arith, get_or, length, ◌<◌}
use Rattle.sd_blocks.proofs.Changes.{end_within, halved_joined, halved_starts}
use Rattle.sd_blocks.proofs.edits.make_room.Goals as goal

pub split-requires : goal.split-requires
split-requires g c =
    let inside : c.locate-k.result < length c.args.blocks.now.items = rw c.as_slice.ensures.value at c.locate-k.ensures.inside in
    rw c.index-block.ensures (omega (arith, end_within c.args.blocks.now.items c.locate-k.result c.index-block.result.now c.requires.starts inside))

pub returns-in_ok-insert-in-Some-clause-starts : goal.returns-in_ok-insert-in-Some-clause-starts
returns-in_ok-insert-in-Some-clause-starts g c =
    let inside : c.locate-k.result < length c.args.blocks.now.items = rw c.as_slice.ensures.value at c.locate-k.ensures.inside in
    let parts : AreHalves (get_or c.args.blocks.now.items c.locate-k.result c.index-block.result.now) c.in-Some.low c.in-Some.high = rw (← c.index-block.ensures) (rw c.in-Some.is at c.in_ok-split.ensures) in
    let whole = halved_starts 0 c.args.blocks.now.items c.locate-k.result c.index-block.result.now c.in-Some.low c.in-Some.high c.requires.starts inside parts in
    rw (c.in_ok-insert-in-Some.ensures.items, add-one) whole

pub returns-in_ok-insert-in-Some-clause-same : goal.returns-in_ok-insert-in-Some-clause-same
returns-in_ok-insert-in-Some-clause-same g c =
    let inside : c.locate-k.result < length c.args.blocks.now.items = rw c.as_slice.ensures.value at c.locate-k.ensures.inside in
    let parts : AreHalves (get_or c.args.blocks.now.items c.locate-k.result c.index-block.result.now) c.in-Some.low c.in-Some.high = rw (← c.index-block.ensures) (rw c.in-Some.is at c.in_ok-split.ensures) in
    let whole = halved_joined c.args.blocks.now.items c.locate-k.result c.index-block.result.now c.in-Some.low c.in-Some.high inside parts in
    rw (c.in_ok-insert-in-Some.ensures.items, add-one) whole
