-- The rights that go with the place have their alternatives now, and are no longer left.
use Rattle.std.proofs.Common.{sym, ◌∙◌}
use Rattle.sd_analysis.proofs.Rights.{among_next, below_kept, below_next, beyond_next, each_next, exact_next}
use Rattle.sd_analysis.proofs.who_case.Case.accesses.Goals as goal
use Rattle.sd_analysis.proofs.who_case.Case.accesses.Goals.{then-holds+in_ok-access+in_ok-push, else-holds}

pub loop-place-preserved : goal.loop-place-preserved
loop-place-preserved c = elim c.if-holds.branch [
  | then-holds+in_ok-access+in_ok-push w ↦
      let case = c.args.self.now in let left = c.loop-place.left in let place = c.loop-place.place in let taken = w.alike-mask.result in let old = c.loop-place.invariant in rw (w.accesses-is, w.left-is) (record {
        exact = rw w.in_ok-push.ensures.items (exact_next case.owner.now case.entries.now case.mapping.now case.base.now c.args.rights left taken w.minus-left.result place c.loop-place.accesses.items w.in_ok-access.field-0
            c.requires c.loop-place-test.true w.alike-mask.ensures w.minus-left.ensures old.among w.in_ok-access.ensures.mask w.in_ok-access.ensures.exact old.exact);
        each = rw w.in_ok-push.ensures.items (each_next case.owner.now case.entries.now case.mapping.now case.base.now c.args.rights left taken w.minus-left.result place c.loop-place.accesses.items w.in_ok-access.field-0
            c.requires c.loop-place-test.true w.alike-mask.ensures w.minus-left.ensures old.among w.in_ok-access.ensures.mask old.each);
        beyond = rw w.in_ok-push.ensures.items (beyond_next case.base.now c.loop-place.accesses.items w.in_ok-access.field-0 old.beyond w.in_ok-access.ensures.beyond);
        among = among_next case.owner.now case.entries.now case.mapping.now case.base.now c.args.rights left taken w.minus-left.result place c.loop-place.accesses.items w.in_ok-access.field-0
            c.requires c.loop-place-test.true w.alike-mask.ensures w.minus-left.ensures old.among;
        below = below_next case.owner.now case.entries.now case.mapping.now case.base.now c.args.rights left taken w.minus-left.result place c.loop-place.accesses.items w.in_ok-access.field-0
            c.requires c.loop-place-test.true w.alike-mask.ensures w.minus-left.ensures old.among (sym c.holds.ensures ∙ w.if-holds.true) old.below;
      })
  | else-holds w ↦ let old = c.loop-place.invariant in rw (w.accesses-is, w.left-is) (record {
    exact = old.exact;
    each = old.each;
    beyond = old.beyond;
    among = old.among;
    below = below_kept c.loop-place.left c.loop-place.place (sym c.holds.ensures ∙ w.if-holds.false) old.below;
  })
]
