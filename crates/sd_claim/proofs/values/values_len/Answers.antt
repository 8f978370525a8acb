-- Where a sum is too large, so is the whole.
use Rattle.sd_claim.proofs.Cited.{ap, arith, flat_map, length, length-flat_map-take, sym, take_all, value_bytes, ◌∙◌, ◌≡◌}
use Rattle.sd_claim.proofs.values.values_len.Goals as goal

pub returns-in_err-total : goal.returns-in_err-total
returns-in_err-total c =
    let values = c.args.values.now in
    let item = c.value-item.result in
    let next = length-flat_map-take value_bytes values c.loop-value.value-index item c.loop-value-test.true in
    let this = ap (λ v. length (value_bytes v)) c.value-item.is in
    rw c.from_residual.ensures (λ fits. c.in_err-total.ensures (omega (arith, c.loop-value.invariant, c.value_len.ensures.exact)))

pub returns : goal.returns
returns c =
    let all = ap (λ vs. length (flat_map value_bytes vs)) (take_all c.loop-value.value-index c.args.values.now c.loop-value-test.false) in
    let same : c.loop-value.total ≡ length (flat_map value_bytes c.args.values.now) = c.loop-value.invariant.0 ∙ all in
    (rw (sym same) c.loop-value.invariant.1, same)
