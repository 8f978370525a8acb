-- The worked claims are written as their data.
use Rattle.sd_claim.proofs.Cited.{refl}
use Rattle.sd_claim.specs.WorkedClaims.{WorkedClaimsAreWritten}
use Rattle.sd_claim.specs.Writing.{claim_bytes, claim_data, value_bytes}

pub worked_claims_are_written : WorkedClaimsAreWritten
unfolding claim_data claim_bytes value_bytes
worked_claims_are_written = record { texts = refl; integers = refl; octets = refl; sids = refl }
