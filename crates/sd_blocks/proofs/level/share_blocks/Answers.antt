use Rattle.sd_blocks.proofs.Cited.{ap, arith, joined, lowered, map, take_all, ◌∙◌}
use Rattle.sd_blocks.proofs.Parts.{begins_from, part_invariant, joined_lowered}
use Rattle.sd_blocks.proofs.level.share_blocks.Goals as goal

pub share_from-requires : goal.share_from-requires
share_from-requires g c = begins_from c.args.by c.args.blocks.now c.loop-block.block-index c.block-item.result c.requires.starts (omega arith) c.block-item.is

pub invariant_of-result : goal.invariant_of-result
invariant_of-result g c =
    let all = take_all c.loop-block.block-index c.args.blocks.now (omega arith) in
    part_invariant c.args.by c.args.len c.args.blocks.now c.loop-block.shared.items c.requires.starts c.requires.len (c.loop-block.invariant ∙ ap (map (lowered c.args.by)) all)

pub returns : goal.returns
returns g c =
    let all = take_all c.loop-block.block-index c.args.blocks.now (omega arith) in
    ap joined (c.loop-block.invariant ∙ ap (map (lowered c.args.by)) all) ∙ joined_lowered c.args.by c.args.blocks.now
