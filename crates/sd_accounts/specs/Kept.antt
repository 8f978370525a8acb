-- The rows that are kept, as what they say.
use Rattle.std.specs.Prelude.{List, map, string_bytes}
use Rattle.sd_accounts.specs.Row.{AccountRow}
use Rattle.sd_accounts.specs.Row as says
use Rattle.sd_accounts.specs.declared.row.Row.{Row}
use Rattle.sd_accounts.specs.declared.row.Row.TheVariants.{User, Group, Member, Primary, Disabled}

-- what the row says
abbrev pub row_of : Row → AccountRow
row_of (User sid name) = says.User sid (string_bytes name)
row_of (Group sid name) = says.Group sid (string_bytes name)
row_of (Member group member) = says.Member group member
row_of (Primary user group) = says.Primary user group
row_of (Disabled user) = says.Disabled user

-- what the rows say, in the file's order
abbrev pub all_rows : List Row → List AccountRow
all_rows rows = map row_of rows
