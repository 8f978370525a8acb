use Rattle.std.proofs.Common.{drop, ap, sym, ◌∙◌, ◌||◌, ◌+◌}
use Rattle.sd_change.specs.Inside.{begins_with, is_within}
use Rattle.sd_change.proofs.Within.{from_place, here_or_after}
use Rattle.sd_change.proofs.inside.is_within.Goals as goal

pub returns-then-begins_with : goal.returns-then-begins_with
returns-then-begins_with c =
    let sid = c.args.sid.now in
    let bytes = c.args.bytes.now in
    let place = c.loop-place.place in
    sym (c.loop-place.invariant ∙ here_or_after sid bytes place c.loop-place-test.true
    ∙ ap (λ found. found || is_within sid (drop (place + 1) bytes)) (ap (begins_with sid) (sym (from_place bytes place)) ∙ sym c.begins_with.ensures ∙ c.if-begins_with.true))

pub loop-place-preserved : goal.loop-place-preserved
loop-place-preserved c =
    let sid = c.args.sid.now in
    let bytes = c.args.bytes.now in
    let place = c.loop-place.place in
    c.loop-place.invariant ∙ here_or_after sid bytes place c.loop-place-test.true
    ∙ ap (λ found. found || is_within sid (drop (place + 1) bytes)) (ap (begins_with sid) (sym (from_place bytes place)) ∙ sym c.begins_with.ensures ∙ c.if-begins_with.false)
