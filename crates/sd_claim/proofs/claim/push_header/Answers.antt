-- The parts follow one another.
use Rattle.sd_claim.proofs.Cited.{ap, append_assoc, arith, length}
use Rattle.sd_claim.proofs.Lengths.{claim_fits}
use Rattle.sd_claim.proofs.claim.push_header.Goals as goal

pub overflow_cast-count : goal.overflow_cast-count
overflow_cast-count c =
    let fits = (claim_fits c.args.claim.now c.values-count.ensures.known).1 in
    let same = ap length c.values-count.ensures.values in
    omega (arith, fits, same)

pub overflow_cast-count-2 : goal.overflow_cast-count-2
overflow_cast-count-2 c =
    let fits = (claim_fits c.args.claim.now c.values-count.ensures.known).1 in
    let same = ap length c.values-count.ensures.values in
    omega (arith, fits, same)

pub returns : goal.returns
returns c =
    rw (
      c.in_ok-push_u32-3.ensures,
      c.in_ok-push_u32-2.ensures,
      c.in_ok-push_u16-2.ensures,
      c.in_ok-push_u16.ensures,
      c.in_ok-push_u32.ensures,
      c.flags.ensures,
      c.number.ensures,
      c.value_type.ensures,
      c.values-count.ensures.values,
    ) (simp append_assoc)
