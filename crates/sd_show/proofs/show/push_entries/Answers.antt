use Rattle.std.proofs.Common.{append_assoc, arith, length, refl, ◌<◌}
use Rattle.sd_show.proofs.Steps.{entry_more}
use Rattle.sd_show.proofs.show.push_entries.Goals as goal

pub loop-place-preserved : goal.loop-place-preserved
loop-place-preserved c =
    let low : c.loop-place.place < length c.args.entries.now = omega arith in
    let more = entry_more c.args.kind c.args.entries.now c.loop-place.place c.index-entries-place.result low c.index-entries-place.is in
    rw (more, c.in_ok-push_entry.ensures, c.loop-place.invariant, append_assoc) refl
