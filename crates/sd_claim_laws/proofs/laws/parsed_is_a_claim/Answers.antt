use Rattle.sd_claim_laws.proofs.Parsed.{parsed_claim}
use Rattle.sd_claim_laws.proofs.laws.parsed_is_a_claim.Goals as goal

pub returns : goal.returns
returns c = parsed_claim
