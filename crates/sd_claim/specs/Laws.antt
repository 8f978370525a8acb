-- The laws of a claim's two forms, its value and its bytes.
use Rattle.std.specs.Prelude.{◌≡◌, ℕ, ◌<◌, ◌≤◌, ◌^◌, true, List, length, Some, FitsSigned}
use Rattle.std.specs.Int.{w64}
use Rattle.std.specs.List.{AllByRecursion}
use Rattle.sd_data.specs.Writing.{AreOctets, AreUnits}
use Rattle.sd_claim.specs.Claim.{ClaimValue}
use Rattle.sd_claim.specs.Reading.{claim_read}
use Rattle.sd_claim.specs.Writing.{claim_data, claim_len, is_claim}
use Rattle.sd_claim.specs.declared.value.Value.{Value}
use Rattle.sd_claim.specs.declared.value.Value.TheVariants as values

-- what every value is: a number of 64 bits, units of 16, octets
abbrev pub IsValue : Value → Type 0
IsValue (values.Integer number) = FitsSigned w64 number
IsValue (values.Unsigned number) = number < 2 ^ 64
IsValue (values.Text text) = AreUnits text
IsValue (values.Sid octets) = AreOctets octets
IsValue (values.Boolean number) = number < 2 ^ 64
IsValue (values.Octets octets) = AreOctets octets

-- what every claim is
pub record IsClaim (c : ClaimValue) : Type 0 where
  pub name : AreUnits c.name
  pub flags : c.flags < 2 ^ 32
  pub values : AllByRecursion IsValue c.values
  pub is : is_claim c ≡ true

-- what is written is parsed again
abbrev pub ClaimsComeBack : Type 0
ClaimsComeBack = (c : ClaimValue) → IsClaim c → claim_read (claim_data c) ≡ Some c

-- what is parsed takes no more bytes than the data has
abbrev pub ClaimsFitTheirData : Type 0
ClaimsFitTheirData = (bytes : List ℕ) (c : ClaimValue) → claim_read bytes ≡ Some c
    → claim_len c.name c.values ≤ length bytes
