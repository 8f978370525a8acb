-- The data of a condition and of a claim fill a multiple of four bytes.
use Rattle.std.proofs.Common.{List, ap, arith, length, ℕ, ◌%◌, ◌+◌, ◌-◌, ◌≡◌, ◌∙◌}
use Rattle.std.specs.List.{flat_map}
use Rattle.sd_claim.proofs.Lengths as claims
use Rattle.sd_claim.specs.Writing.{claim_data, claim_len}
use Rattle.sd_claim.specs.Claim.{ClaimValue}
use Rattle.sd_condition.proofs.Lengths as conditions
use Rattle.sd_condition.specs.Writing.{condition_data, token_bytes}
use Rattle.sd_condition.specs.declared.token.Token.{Token}

fills_up : (n : ℕ) → ((n + (4 - n % 4) % 4) % 4 ≡ 0) × ((4 + n + (4 - n % 4) % 4) % 4 ≡ 0)
fills_up n = (omega arith, omega arith)

pub condition_aligned : (ts : List Token) → length (condition_data ts) % 4 ≡ 0
condition_aligned ts = ap (λ n. n % 4) (conditions.length_of_data ts) ∙ (fills_up (length (flat_map token_bytes ts))).1

pub claim_aligned : (c : ClaimValue) → length (claim_data c) % 4 ≡ 0
claim_aligned c = ap (λ n. n % 4) (claims.length_of_data c) ∙ (fills_up (claim_len c.name c.values)).0
