-- The accounts, as their rows.
use Rattle.std.specs.Prelude.{List}
use Rattle.sd_accounts.specs.Kept.{all_rows}
use Rattle.sd_accounts.specs.Row.{AccountRow}
use Rattle.sd_accounts.specs.declared.accounts.Accounts.{Accounts}

-- the rows of the accounts, in the file's order
abbrev pub rows_of : Accounts → List AccountRow
rows_of accounts = all_rows accounts.rows.items
