-- The parts follow one another, and each ends where the claim ends, or before.
use Rattle.sd_claim.proofs.Cited.{append_assoc, arith}
use Rattle.sd_claim.proofs.Lengths.{claim_fits}
use Rattle.sd_claim.specs.Writing.{claim_bytes}
use Rattle.sd_claim.proofs.claim.push_claim.Goals as goal

pub push_offsets-requires : goal.push_offsets-requires
push_offsets-requires c =
    rw (c.terminated_len.ensures.exact, c.name-name.ensures, c.values-values.ensures.values) (claim_fits c.args.claim.now c.values-values.ensures.known).1

pub push_values-requires : goal.push_values-requires
push_values-requires c =
    rw c.values-values.ensures.values (omega (arith, (claim_fits c.args.claim.now c.values-values.ensures.known).1))

pub returns : goal.returns
unfolding claim_bytes
returns c =
    rw (
      c.in_ok-push_values.ensures,
      c.in_ok-push_terminated.ensures,
      c.in_ok-push_offsets.ensures,
      c.in_ok-push_header.ensures,
      c.terminated_len.ensures.exact,
      c.name-name.ensures,
      c.values-values.ensures.values,
    ) (simp append_assoc)
