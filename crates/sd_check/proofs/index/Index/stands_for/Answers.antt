-- A walk along the chain of the SID's place meets the user and each group that has the SID.
use Rattle.std.proofs.Common.{◌-◌, ◌<◌, length, sym, ◌∙◌, arith}
use Rattle.sd_check.proofs.Cited.{or_right}
use Rattle.sd_check.proofs.Chains.{at_end, group_at, leads_from, leads_on}
use Rattle.sd_check.proofs.index.Index.stands_for.Goals as goal
use Rattle.sd_check.proofs.index.Index.stands_for.Goals.{then-link-eq1, else-link-eq1}

pub loop-link-init : goal.loop-link-init
loop-link-init c =
    let at = c.place_of.result in
    (c.requires.chains.starts at, c.requires.chains.within at, leads_from _ _ _ _ _ c.args.self.now.heads at c.place_of.ensures.place c.requires.chains c.requires.user)

pub loop-link-preserved : goal.loop-link-preserved
loop-link-preserved c =
    let back = c.requires.chains.goes_back (c.loop-link.link - 1) in
    let more = c.loop-link-test.true in
    let fails = sym c.stands_for.ensures ∙ c.if-stands_for.false in (
      omega (arith, back, c.loop-link.invariant.0),
      omega (arith, back, c.loop-link.invariant.1),
      leads_on _ _ _ _ _ c.loop-link.link _ more (omega (arith, c.loop-link.invariant.0, more)) c.index-groups-link.is fails c.loop-link.invariant.2,
    )

pub returns-then-stands_for : goal.returns-then-stands_for
returns-then-stands_for c =
    let inside : c.loop-link.link - 2 < length c.args.groups.now = omega (arith, c.loop-link.invariant.0, c.loop-link-test.true) in
    sym (or_right _ _ (group_at c.args.groups.now c.args.sid.now c.args.kind (c.loop-link.link - 2) _ inside c.index-groups-link.is (sym c.stands_for.ensures ∙ c.if-stands_for.true)))

pub returns-else-stands_for-2 : goal.returns-else-stands_for-2
returns-else-stands_for-2 c =
    at_end _ _ _ _ _ c.loop-link.link _ c.loop-link-test.false c.requires.chains.goes_back c.loop-link.invariant.2
    (λ one. elim c.if-link-eq1.branch [
      | then-link-eq1 w ↦ sym w.stands_for-then-link-eq1.ensures ∙ sym w.value-is ∙ c.if-stands_for-2.false
      | else-link-eq1 w ↦ absurd (omega (arith, one, w.if-link-eq1.false))
    ]) c.one_beyond_chains.ensures
