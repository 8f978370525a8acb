use Rattle.sd_blocks.proofs.Cited.{joined, length, ◌<◌}
use Rattle.sd_blocks.proofs.Written.{written_ok, kept_starts}
use Rattle.sd_blocks.proofs.level.Level.set.Goals as goal

pub invariant_of-self : goal.invariant_of-self
invariant_of-self g c =
    kept_starts c.self.inside.blocks.items c.self.inside.len c.args.at c.locate-k.result c.index_mut-block.result.now c.set.new.self c.self.invariant.0 c.self.invariant.1
    (rw c.as_slice.ensures.value at c.locate-k.ensures) c.index_mut-block.ensures.value c.set.ensures.start c.set.ensures.len

pub returns-clause-done : goal.returns-clause-done
returns-clause-done g c =
    let in_list : c.args.at < length (joined c.self.inside.blocks.items) = rw c.self.view_is c.requires in
    rw (← c.self.view_is) (written_ok c.set.result c.self.inside.blocks.items c.args.at c.locate-k.result c.index_mut-block.result.now c.set.new.self c.start.result c.args.item
    (rw c.as_slice.ensures.value at c.locate-k.ensures) in_list c.index_mut-block.ensures.value c.start.ensures c.set.ensures.done)
