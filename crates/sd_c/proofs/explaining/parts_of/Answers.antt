use Rattle.sd_c.proofs.Cited.{PartAnswer, ap, arith, fill_by_all, fill_by_more, get_or, length, length-set, no_part, part_at, part_told, reason_in, set, ℕ, ◌<◌, ◌∙◌}
use Rattle.sd_c.proofs.explaining.parts_of.Goals as goal

pub loop-place-preserved : goal.loop-place-preserved
loop-place-preserved c =
    let part : ℕ → PartAnswer = λ b. part_told (part_at (reason_in c.args.explanation.now.reasons) b) in
    let low : c.loop-place.place < length c.loop-place.parts = omega (arith, c.loop-place.invariant.0, c.loop-place-test.true) in (
      length-set c.loop-place.parts c.loop-place.place c.part_told.result ∙ c.loop-place.invariant.0,
      λ k h. ap (λ r. get_or (set c.loop-place.parts c.loop-place.place r) k no_part) (c.part_told.ensures ∙ ap part_told c.part.ensures)
          ∙ fill_by_more part c.loop-place.parts c.loop-place.place no_part low c.loop-place.invariant.1 k h,
    )

pub returns : goal.returns
returns c =
    fill_by_all (λ (b : ℕ). part_told (part_at (reason_in c.args.explanation.now.reasons) b)) c.loop-place.parts 32 no_part
    c.loop-place.invariant.0 (λ k h. c.loop-place.invariant.1 k (omega (arith, c.loop-place-test.false, h)))
