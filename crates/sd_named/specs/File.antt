-- The accounts of a file's text, and those that need no file.
use Rattle.std.specs.Prelude.{ℕ, List, ◌++◌}
use Rattle.std.specs.Str.{IsUtf8, IsValidUpTo}
use Rattle.sd_accounts.specs.Fault.{IsFirstNoRow}
use Rattle.sd_accounts.specs.Row.{AccountRow, AreRows, lines_of}
use Rattle.sd_named.specs.declared.file.FileError.{FileError}
use Rattle.sd_named.specs.declared.file.FileError.TheVariants.{Utf8, Row, Memory}
use Rattle.sd_named.specs.declared.well_known.TheConstants.{WELL_KNOWN}

-- the accounts of a file's text: its rows, and those that need no file
abbrev pub AreAccounts : List ℕ → List AccountRow → Type 0
AreAccounts text rows = AreRows (lines_of (text ++ WELL_KNOWN.now)) rows

-- why there are none: the text isn't UTF-8 from this byte on, or this line is the first that is no row. Memory runs out
-- only for a text that is UTF-8
abbrev pub IsFileError : List ℕ → FileError → Type 0
IsFileError text (Utf8 at) = ¬ (IsUtf8 text) × IsValidUpTo text at
IsFileError text (Row line kind) = IsUtf8 text × IsFirstNoRow (lines_of (text ++ WELL_KNOWN.now)) line kind
IsFileError text Memory = IsUtf8 text
