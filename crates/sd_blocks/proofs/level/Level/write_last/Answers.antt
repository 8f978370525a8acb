use Rattle.sd_blocks.proofs.Cited.{StartFrom, arith, joined, length, set, sym, ◌+◌, ◌-◌, ◌∙◌, ◌≡◌, ◌≤◌}
use Rattle.sd_blocks.proofs.Written.{kept_starts}
use Rattle.sd_blocks.proofs.WriteRuns.{last_written_ok}
use Rattle.sd_blocks.proofs.level.Level.write_last.Goals as goal

pub invariant_of-self-2 : goal.invariant_of-self-2
invariant_of-self-2 g c =
    kept_starts c.self.inside.blocks.items c.self.inside.len _ c.locate-k.result c.index_mut-block.result.now c.write.new.self c.self.invariant.0 c.self.invariant.1
    (rw c.as_slice.ensures.value at c.locate-k.ensures) c.index_mut-block.ensures.value c.write.ensures.start c.write.ensures.len

pub returns-clause-len : goal.returns-clause-len
returns-clause-len g c =
    let kept : StartFrom 0 (set c.self.inside.blocks.items c.locate-k.result c.write.new.self) × c.self.inside.len ≡ length (joined (set c.self.inside.blocks.items c.locate-k.result c.write.new.self)) =
    kept_starts c.self.inside.blocks.items c.self.inside.len _ c.locate-k.result c.index_mut-block.result.now c.write.new.self c.self.invariant.0 c.self.invariant.1
    (rw c.as_slice.ensures.value at c.locate-k.ensures) c.index_mut-block.ensures.value c.write.ensures.start c.write.ensures.len in
    rw (← c.self.view_is) (sym kept.1 ∙ c.self.invariant.1)

pub returns-clause-done : goal.returns-clause-done
returns-clause-done g c =
    let cut = c.in_ok-items.ensures in
    let fits : c.args.at + length c.args.run.now.items ≤ length (joined c.self.inside.blocks.items) = rw c.self.view_is c.requires.fits in
    rw (← c.self.view_is) (last_written_ok c.write.result c.self.inside.blocks.items c.args.at c.locate-k.result c.index_mut-block.result.now c.write.new.self (c.args.at + (c.len.result - 1)) c.start-start.result c.saturating_sub-before.result c.args.run.now.items _ c.in_ok-items.items.items
    (omega (arith, c.len.ensures, c.requires.some)) fits (rw c.as_slice.ensures.value at c.locate-k.ensures) c.index_mut-block.ensures.value c.start-start.ensures c.saturating_sub-before.ensures cut.items cut.tail c.write.ensures.done)
