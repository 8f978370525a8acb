-- Who asks ([MS-DTYP] 2.5.2), for the checks of whole descriptors.
use Rattle.std.specs.Prelude.{ℕ, List}
use Rattle.sd_sid.specs.Sid.{SidValue}
use Rattle.sd_check.specs.Token.{TokenValue}
use Rattle.sd_check.specs.declared.token.GroupState.{GroupState}
use Rattle.sd_claim.specs.Claim.{ClaimValue}

-- a token, the groups of the device that is asked from, claims by a plain name, of the user and of the device, and an
-- integrity level
pub record ClientValue : Type 0 where
  pub token : TokenValue
  pub device_groups : List (SidValue × GroupState)
  pub local : List ClaimValue
  pub user : List ClaimValue
  pub device : List ClaimValue
  pub level : ℕ
