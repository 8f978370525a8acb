-- Laws about rows and groups.
use Rattle.std.specs.Prelude.{◌↔◌, ℕ, List, Contains}
use Rattle.sd_sid.specs.Sid.{SidValue}
use Rattle.sd_accounts.specs.Fault.{IsFirstNoRow}
use Rattle.sd_accounts.specs.Groups.{Belongs}
use Rattle.sd_accounts.specs.Row.{AccountRow, AreRows}
use Rattle.sd_accounts.specs.Way.{IsWay}
use Rattle.sd_accounts.specs.declared.fault.AccountsFault.{AccountsFault}

-- lines that say rows have no fault
abbrev pub RowsHaveNoFault : Type 0
RowsHaveNoFault = (lines : List (List ℕ)) (rows : List AccountRow) (number : ℕ) (fault : AccountsFault)
    → AreRows lines rows → IsFirstNoRow lines number fault → ⊥

-- one belongs to a group too by rows that have all of these rows, in whichever order
abbrev pub OrderDoesNotMatter : Type 0
OrderDoesNotMatter = (rows others : List AccountRow) (starts : List SidValue) (group : SidValue)
    → ((row : AccountRow) → Contains rows row → Contains others row)
    → Belongs rows starts group → Belongs others starts group

-- one belongs to a group exactly if there is a way to it
abbrev pub BelongsByAWay : Type 0
BelongsByAWay = (rows : List AccountRow) (starts : List SidValue) (group : SidValue)
    → Belongs rows starts group ↔ ((way : List SidValue) × IsWay rows starts group way)
