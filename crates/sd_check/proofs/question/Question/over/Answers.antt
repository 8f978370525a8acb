-- Each entry takes the tally on; after one that settles all, the rest changes nothing.
use Rattle.std.proofs.Common.{◌-◌, map, take, drop, length}
use Rattle.sd_check.proofs.Passes.{takes_next, takes_none, tally_over}
use Rattle.sd_check.proofs.question.Question.over.Goals as goal

pub each-init : goal.each-init
each-init g c = λ to rest. c.from_next-rest.ensures.same _ c.args.before to rest

pub each-preserved : goal.each-preserved
each-preserved g c = λ to rest. c.each.invariant to
    (takes_next g.E.Entry.ace _ _ c.entry-item.result c.each.rest.now _ c.each.progress c.deciding-next.result.0 to c.in-len1-up.len_at_least c.entry-item.is c.deciding-next.ensures.takes (c.from_next-rest-in-len1-up.ensures.same _ c.deciding-next.result.0 to rest))

pub returns-then-over : goal.returns-then-over
returns-then-over g c = c.each.invariant c.deciding-next.result.0
    (takes_next g.E.Entry.ace _ _ c.entry-item.result c.each.rest.now _ c.each.progress c.deciding-next.result.0 c.deciding-next.result.0 c.in-len1-up.len_at_least c.entry-item.is c.deciding-next.ensures.takes
    (λ seen. tally_over _ _ seen (map g.E.Entry.ace (take (length c.each.rest.now - 1) (drop 1 c.each.rest.now))) c.deciding-next.result.0 (c.deciding-next.ensures.first c.if-over.true) (c.deciding-next.ensures.second c.if-over.true)))

pub returns : goal.returns
returns g c = c.each.invariant c.each.progress (takes_none g.E.Entry.ace _ _ c.each.rest.now c.each.progress c.in_default.len_below)

pub returns-then-is_over : goal.returns-then-is_over
returns-then-is_over g c = λ seen. tally_over _ _ seen (map g.E.Entry.ace c.args.entries.now) c.args.before (c.is_over.ensures.first c.if-is_over.true) (c.is_over.ensures.second c.if-is_over.true)
