use Rattle.std.proofs.Common.{append_assoc, arith, length, refl, ◌<◌}
use Rattle.sd_show.proofs.Steps.{new_more}
use Rattle.sd_show.proofs.diff.push_new.Goals as goal

pub loop-place-preserved : goal.loop-place-preserved
loop-place-preserved c =
    let low : c.loop-place.place < length c.args.entries.now = omega arith in
    let more = new_more c.args.kind c.args.old.now c.args.new.now c.args.entries.now c.loop-place.place c.index-entries-place.result low c.index-entries-place.is in
    rw (more, c.in_ok-push_new_entry.ensures, c.loop-place.invariant, append_assoc) refl
