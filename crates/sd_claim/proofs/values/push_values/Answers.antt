-- Each value takes no more bytes than all of them.
use Rattle.sd_claim.proofs.Cited.{ap, arith, length, length-flat_map-take, value_bytes}
use Rattle.sd_claim.proofs.values.push_values.Goals as goal

pub push_value-requires : goal.push_value-requires
push_value-requires c =
    let values = c.args.values.now in
    let item = c.value-item.result in
    let within = length-flat_map-take value_bytes values c.loop-value.value-index item c.loop-value-test.true in
    let this = ap (λ v. length (value_bytes v)) c.value-item.is in
    omega (arith, c.requires)
