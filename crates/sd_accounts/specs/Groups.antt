-- The groups that an account really has: directly, or by a group that is a member of another.
use Rattle.std.specs.Prelude.{◌≡◌, ◌↔◌, List, Contains}
use Rattle.std.specs.List.{IsDistinct}
use Rattle.sd_sid.specs.Sid.{SidValue, same_sid}
use Rattle.sd_accounts.specs.Row.{AccountRow, User, Group, Member, Primary, Disabled}

-- the row says that the member is in the group, as a member or by its primary group
abbrev pub Says : AccountRow → SidValue → SidValue → Type 0
Says (User sid name) member group = ⊥
Says (Group sid name) member group = ⊥
Says (Member g m) member group = (m ≡ member) × (g ≡ group)
Says (Primary u g) member group = (u ≡ member) × (g ≡ group)
Says (Disabled user) member group = ⊥

-- some row says that the member is in the group
abbrev pub IsIn : List AccountRow → SidValue → SidValue → Type 0
IsIn rows member group = (row : AccountRow) × Contains rows row × Says row member group

-- one who has these SIDs belongs to the group: one of them is in it, or a group to which one belongs
pub data Belongs (rows : List AccountRow) (starts : List SidValue) : SidValue → Type 0 where
  directly : (start group : SidValue) → Contains starts start → IsIn rows start group → Belongs rows starts group
  further : (between group : SidValue) → Belongs rows starts between → IsIn rows between group
      → Belongs rows starts group

-- these are all groups to which one who has these SIDs belongs, each once
pub record AreGroupsOf (rows : List AccountRow) (starts groups : List SidValue) : Type 0 where
  pub each : (sid : SidValue) → Contains groups sid ↔ Belongs rows starts sid
  pub once : IsDistinct same_sid groups
