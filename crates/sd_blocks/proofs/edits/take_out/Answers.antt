use Rattle.std.proofs.Common.{arith, ◌≡◌, ◌<◌, length, rules, ◌∙◌}
use Rattle.sd_blocks.proofs.Written.{get_joined}
use Rattle.sd_blocks.proofs.Changes.{taken_joined, taken_starts, emptied_joined, emptied_starts, same_joined, same_starts, rest_above}
use Rattle.sd_blocks.proofs.edits.take_out.Goals as goal

pub returns-in_err-item-clause-starts : goal.returns-in_err-item-clause-starts
returns-in_err-item-clause-starts g c =
    let found = rw c.as_slice.ensures.value at c.locate-k.ensures in
    same_starts c.args.blocks.now.items c.locate-k.result c.index_mut-block.result.now c.remove.new.self c.requires.starts found.inside c.index_mut-block.ensures.value c.remove.ensures.start c.in_err-item.ensures.refused

pub returns-in_err-item-clause-refused : goal.returns-in_err-item-clause-refused
returns-in_err-item-clause-refused g c =
    let found = rw c.as_slice.ensures.value at c.locate-k.ensures in
    let same = same_joined c.args.blocks.now.items c.locate-k.result c.index_mut-block.result.now c.remove.new.self found.inside c.index_mut-block.ensures.value c.in_err-item.ensures.refused in
    search (rules, same)

pub move_down_from-requires-clause-fits : goal.move_down_from-requires-clause-fits
move_down_from-requires-clause-fits g c =
    rest_above c.args.blocks.now.items c.locate-k.result c.remove.new.self c.requires.starts

pub returns-then-left-eq0-clause-starts : goal.returns-then-left-eq0-clause-starts
returns-then-left-eq0-clause-starts g c =
    let found = rw c.as_slice.ensures.value at c.locate-k.ensures in
    let left : length c.remove.new.self.1 ≡ 0 = omega (arith, c.count-left.ensures) in
    rw (c.remove-emptied.ensures.items, c.move_down_from.ensures) (emptied_starts c.args.blocks.now.items c.args.at c.locate-k.result c.index_mut-block.result.now c.remove.new.self c.start.result c.requires.starts found c.requires.within c.index_mut-block.ensures.value c.start.ensures c.in_ok-item.ensures.done left)

pub returns-then-left-eq0-clause-value : goal.returns-then-left-eq0-clause-value
returns-then-left-eq0-clause-value g c =
    let found = rw c.as_slice.ensures.value at c.locate-k.ensures in
    get_joined c.args.blocks.now.items c.args.at c.locate-k.result c.index_mut-block.result.now c.start.result c.in_ok-item.item found c.requires.within c.index_mut-block.ensures.value c.start.ensures c.in_ok-item.ensures.value

pub returns-then-left-eq0-clause-done : goal.returns-then-left-eq0-clause-done
returns-then-left-eq0-clause-done g c =
    let found = rw c.as_slice.ensures.value at c.locate-k.ensures in
    let left : length c.remove.new.self.1 ≡ 0 = omega (arith, c.count-left.ensures) in
    rw (c.remove-emptied.ensures.items, c.move_down_from.ensures) (emptied_joined c.args.blocks.now.items c.locate-k.result c.remove.new.self found.inside left ∙ taken_joined c.args.blocks.now.items c.args.at c.locate-k.result c.index_mut-block.result.now c.remove.new.self c.start.result found c.requires.within c.index_mut-block.ensures.value c.start.ensures c.in_ok-item.ensures.done)

pub returns-clause-starts : goal.returns-clause-starts
returns-clause-starts g c =
    let found = rw c.as_slice.ensures.value at c.locate-k.ensures in
    let some : 0 < length c.remove.new.self.1 = omega (arith, c.count-left.ensures) in
    rw c.move_down_from.ensures (taken_starts c.args.blocks.now.items c.args.at c.locate-k.result c.index_mut-block.result.now c.remove.new.self c.start.result c.requires.starts found c.requires.within c.index_mut-block.ensures.value c.start.ensures c.remove.ensures.start c.in_ok-item.ensures.done some)

pub returns-clause-value : goal.returns-clause-value
returns-clause-value g c =
    let found = rw c.as_slice.ensures.value at c.locate-k.ensures in
    get_joined c.args.blocks.now.items c.args.at c.locate-k.result c.index_mut-block.result.now c.start.result c.in_ok-item.item found c.requires.within c.index_mut-block.ensures.value c.start.ensures c.in_ok-item.ensures.value

pub returns-clause-done : goal.returns-clause-done
returns-clause-done g c =
    let found = rw c.as_slice.ensures.value at c.locate-k.ensures in
    rw c.move_down_from.ensures (taken_joined c.args.blocks.now.items c.args.at c.locate-k.result c.index_mut-block.result.now c.remove.new.self c.start.result found c.requires.within c.index_mut-block.ensures.value c.start.ensures c.in_ok-item.ensures.done)
