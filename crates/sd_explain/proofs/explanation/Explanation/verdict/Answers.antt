use Rattle.sd_explain.proofs.Cited.{Granted, Missing, Share, ap, is_of_share, refl, sym, ◌∙◌}
use Rattle.sd_sid.specs.Mask.{mask_of}
use Rattle.sd_explain.specs.declared.reason.Share.TheVariants.{Reserved}
use Rattle.sd_explain.proofs.Bits.{one_more, no_more}
use Rattle.sd_explain.proofs.explanation.Explanation.verdict.Goals.{in-Some, in_default}
use Rattle.sd_explain.proofs.explanation.Explanation.verdict.Goals as goal

pub loop-place-init : goal.loop-place-init
unfolding mask_of
loop-place-init c = (refl, (refl, refl))

pub loop-place-preserved : goal.loop-place-preserved
loop-place-preserved c =
    elim c.match-self-place.branch [
      | in-Some w ↦
          let is = λ (share : Share). sym (ap (is_of_share share) w.in-Some.is) in
          let reserved = one_more _ _ _ _ _ _ c.loop-place-test.true c.loop-place.invariant.0 (w.belongs.ensures ∙ is Reserved) w.only_if.ensures w.union-reserved.ensures in
          let missing = one_more _ _ _ _ _ _ c.loop-place-test.true c.loop-place.invariant.1.0 (w.belongs-in-Some.ensures ∙ is Missing) w.only_if-in-Some.ensures w.union-missing.ensures in
          let granted = one_more _ _ _ _ _ _ c.loop-place-test.true c.loop-place.invariant.1.1 (w.belongs-in-Some-2.ensures ∙ is Granted) w.only_if-in-Some-2.ensures w.union-granted.ensures in
          (w.reserved-is ∙ reserved, (w.missing-is ∙ missing, w.granted-is ∙ granted))
      | in_default w ↦
          let none = λ (share : Share). ap (is_of_share share) w.in_default.is in
          let reserved = no_more _ _ _ c.loop-place-test.true c.loop-place.invariant.0 (none Reserved) in
          let missing = no_more _ _ _ c.loop-place-test.true c.loop-place.invariant.1.0 (none Missing) in
          (w.reserved-is ∙ reserved, (w.missing-is ∙ missing, w.granted-is ∙ no_more _ _ _ c.loop-place-test.true c.loop-place.invariant.1.1 (none Granted)))
    ]
