use Rattle.std.proofs.Common.{◌≡◌, true, arith, refl, get_or, sym, ◌∙◌, ap}
use Rattle.sd_check.proofs.Cited.{false≢true, owner_rights, SidValue, GroupState, Deny, counts, get_or_default}
use Rattle.sd_check.proofs.Chains.{index_of_nobody, index_on, marks_each}
use Rattle.sd_check.proofs.index.Index.new.Goals as goal
use Rattle.sd_check.proofs.index.Index.new.Goals.{then-number-lt-MAX_CHAINED+then-counts, else-number-lt-MAX_CHAINED, else-number-lt-MAX_CHAINED-via-then-number-lt-MAX_CHAINED+else-counts, else-number-lt-MAX_CHAINED-via-else-number-lt-MAX_CHAINED}

pub loop-number-init : goal.loop-number-init
loop-number-init c =
    let groups = c.args.groups.now in
    let kept = c.mark_groups.ensures.kept in
    let each = c.mark_each.ensures in (
      kept.0 groups (each.kept.0 groups (c.mark-2.ensures.kept.0 groups (c.mark.ensures.kept.0 groups (index_of_nobody groups)))),
      kept.1 c.args.user.now (each.kept.1 c.args.user.now (c.mark-2.ensures.here c.args.user.now c.place_of.ensures.place)),
      marks_each c.mark_groups.new.self.heads c.mark_groups.new.self.nexts groups c.args.restricting.now c.beyond_chains.result.now c.beyond_chains.ensures
          (kept.1 owner_rights (each.kept.1 owner_rights (c.mark-2.ensures.kept.1 owner_rights (c.mark.ensures.here owner_rights refl))))
          (λ s one. kept.1 s (each.here s one)) c.mark_groups.ensures.here,
    )

pub loop-number-preserved : goal.loop-number-preserved
loop-number-preserved c =
    let index = c.loop-number.index in
    let groups = c.args.groups.now in
    let number = c.loop-number.number in
    let group = c.index-groups-number.result in
    let same : (d : SidValue × GroupState) → get_or groups number d ≡ group = λ d. get_or_default groups number d group c.loop-number-test.true ∙ sym c.index-groups-number.is in
    elim c.if-number-lt-MAX_CHAINED.branch [
      | then-number-lt-MAX_CHAINED+then-counts w ↦ rw w.index-is (
        w.add.ensures.chains groups (λ d. ap (λ (g : SidValue × GroupState). g.0) (same d)) c.loop-number.invariant.0,
        w.add.ensures.marks groups c.args.user.now c.loop-number.invariant.0 c.loop-number.invariant.1,
        λ kind s one. w.add.ensures.marks groups s c.loop-number.invariant.0 (c.loop-number.invariant.2 kind s one),
      )
      | else-number-lt-MAX_CHAINED w ↦ rw w.index-is (
        index_on groups index.heads index.nexts number (λ d few counted. elim w.else-number-lt-MAX_CHAINED.branch [
          | else-number-lt-MAX_CHAINED-via-then-number-lt-MAX_CHAINED+else-counts v ↦
              false≢true (sym (sym v.counts.ensures ∙ v.if-counts.false) ∙ ap (λ (g : SidValue × GroupState). counts Deny g.1) (sym (same d)) ∙ counted)
          | else-number-lt-MAX_CHAINED-via-else-number-lt-MAX_CHAINED v ↦ omega (arith, few, v.if-number-lt-MAX_CHAINED.false)
        ]) c.loop-number.invariant.0,
        c.loop-number.invariant.1,
        c.loop-number.invariant.2,
      )
    ]
