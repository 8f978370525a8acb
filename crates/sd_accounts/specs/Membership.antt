-- The groups to which one belongs who has some SIDs.
use Rattle.std.specs.Prelude.{List}
use Rattle.sd_sid.specs.Sid.{SidValue}
use Rattle.sd_accounts.specs.Row.{AccountRow}

-- by which rows, which SIDs one has, and the groups
pub record MembershipValue : Type 0 where
  pub rows : List AccountRow
  pub starts : List SidValue
  pub groups : List SidValue
