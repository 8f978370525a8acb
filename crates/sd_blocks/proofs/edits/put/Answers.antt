use Rattle.std.proofs.Common.{rules}
use Rattle.sd_blocks.proofs.Changes.{put_joined, put_starts, same_joined, same_starts, rest_below}
use Rattle.sd_blocks.proofs.edits.put.Goals as goal

pub returns-in_err-insert-clause-starts : goal.returns-in_err-insert-clause-starts
returns-in_err-insert-clause-starts g c =
    let found = rw c.as_slice.ensures.value at c.locate-k.ensures in
    same_starts c.args.blocks.now.items c.locate-k.result c.index_mut-block.result.now c.insert.new.self c.requires.starts found.inside c.index_mut-block.ensures.value c.insert.ensures.start c.in_err-insert.ensures.refused

pub returns-in_err-insert-clause-refused : goal.returns-in_err-insert-clause-refused
returns-in_err-insert-clause-refused g c =
    let found = rw c.as_slice.ensures.value at c.locate-k.ensures in
    let same = same_joined c.args.blocks.now.items c.locate-k.result c.index_mut-block.result.now c.insert.new.self found.inside c.index_mut-block.ensures.value c.in_err-insert.ensures.refused in
    search (rules, same)

pub move_up_from-requires-clause-fits : goal.move_up_from-requires-clause-fits
move_up_from-requires-clause-fits g c = rest_below c.args.blocks.now.items c.locate-k.result _ c.insert.new.self c.requires.starts c.requires.fits

pub returns-clause-starts : goal.returns-clause-starts
returns-clause-starts g c =
    let found = rw c.as_slice.ensures.value at c.locate-k.ensures in
    rw c.move_up_from.ensures (put_starts c.args.blocks.now.items c.args.at c.locate-k.result c.index_mut-block.result.now c.insert.new.self c.start.result c.args.item c.requires.starts found c.index_mut-block.ensures.value c.start.ensures c.insert.ensures.start c.in_ok-insert.ensures.done)

pub returns-clause-done : goal.returns-clause-done
returns-clause-done g c =
    let found = rw c.as_slice.ensures.value at c.locate-k.ensures in
    rw c.move_up_from.ensures (put_joined c.args.blocks.now.items c.args.at c.locate-k.result c.index_mut-block.result.now c.insert.new.self c.start.result c.args.item found c.index_mut-block.ensures.value c.start.ensures c.in_ok-insert.ensures.done)
