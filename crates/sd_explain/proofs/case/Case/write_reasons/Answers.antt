use Rattle.sd_explain.proofs.Cited.{List, None, Option, Reason, ap, arith, fill_by_all, get_or, get_or-replicate, of_case, reason_at, sym, ◌∙◌}
use Rattle.sd_explain.proofs.Written.{written_here, written_not, written_all}
use Rattle.sd_explain.proofs.case.Case.write_reasons.Goals as goal

pub loop-place-preserved : goal.loop-place-preserved
loop-place-preserved c =
    written_here None _ c.answered-answered.result _ c.loop-place.reasons c.reason.result c.loop-place.place
    (omega (arith, c.loop-place-test.true, c.span-lowest.ensures.end)) (sym c.holds.ensures ∙ c.if-not-holds.false) c.reason.ensures c.loop-place.invariant

pub loop-place-preserved-then-not-holds : goal.loop-place-preserved-then-not-holds
loop-place-preserved-then-not-holds c =
    written_not None _ c.answered-answered.result _ c.loop-place.reasons c.loop-place.place (sym c.holds.ensures ∙ c.if-not-holds.true) c.loop-place.invariant

pub returns : goal.returns
returns c =
    let reason = of_case reason_at c.args.self.now c.args.self.now.question.asked in
    fill_by_all reason c.loop-place.reasons 32 None c.loop-place.invariant.size (λ k h. grind (
      arith,
      written_all None _ c.answered-answered.result reason c.loop-place.reasons c.loop-place.place k
          (λ j high. c.span-lowest.ensures.above j (omega (arith, high, c.loop-place-test.false))) c.loop-place.invariant,
      ap (λ (rs : List (Option Reason)). get_or rs k None) c.requires ∙ get_or-replicate {A = Option Reason} 32 k None None h,
      c.answered-answered.ensures k h,
    ))
