use Rattle.sd_claim.proofs.Lengths.{claim_fits}
use Rattle.sd_whole_parse.proofs.data.read_claim_field.Goals as goal

pub copied-requires : goal.copied-requires
copied-requires c = rw (c.deref.ensures.value, c.in_ok-bytes.ensures, ← c.claim.view_is) (claim_fits _ c.claim.invariant).0
