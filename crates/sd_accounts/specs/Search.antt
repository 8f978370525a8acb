-- A search for wanted SIDs among those that one has.
use Rattle.std.specs.Prelude.{List}
use Rattle.sd_sid.specs.Sid.{SidValue}
use Rattle.sd_accounts.specs.Accounts.{rows_of}
use Rattle.sd_accounts.specs.Row.{AccountRow}
use Rattle.sd_accounts.specs.declared.search.Search.{Search}

-- what is searched, and for which SIDs
abbrev pub searched : Search → List AccountRow
searched search = rows_of search.accounts.now

abbrev pub wanted_by : Search → List SidValue
wanted_by search = search.wanted.keys
