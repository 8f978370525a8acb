use Rattle.std.proofs.Common.{arith, length, refl, ◌<◌}
use Rattle.std.proofs.lemmas.List.{map-append}
use Rattle.sd_show.proofs.Steps.{count_more}
use Rattle.sd_show.proofs.pairs.counts.Goals as goal

pub loop-place-preserved : goal.loop-place-preserved
loop-place-preserved c =
    let low : c.loop-place.place < length c.args.entries.now = omega arith in
    let more = count_more c.args.entries.now c.loop-place.place c.index-entries-place.result low c.index-entries-place.is in
    rw (more, c.in_ok-push.ensures.items, map-append, c.loop-place.invariant, c.count_same-before.ensures) refl
