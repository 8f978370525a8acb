-- A way to a group: by which groups one belongs to it.
use Rattle.std.specs.Prelude.{◌++◌, List, [], ◌∷◌, Contains}
use Rattle.sd_sid.specs.Sid.{SidValue}
use Rattle.sd_accounts.specs.Groups.{IsIn}
use Rattle.sd_accounts.specs.Row.{AccountRow}

-- these groups are a way from the starts to this group: a start is directly in the first, each group is directly in the
-- next, and the last is this one
pub data IsWay (rows : List AccountRow) (starts : List SidValue) : SidValue → List SidValue → Type 0 where
  straight : (start group : SidValue) → Contains starts start → IsIn rows start group
      → IsWay rows starts group (group ∷ [])
  by_way : (between group : SidValue) (way : List SidValue) → IsWay rows starts between way → IsIn rows between group
      → IsWay rows starts group (way ++ group ∷ [])
