-- Accounts that handles keep: those of a file's text, the SIDs of a user's token, and the users that may log on.
use Rattle.std.specs.Prelude.{◌≡◌, ◌⊎◌, ℕ, ◌<◌, List, [], ◌∷◌, ◌++◌, length, Option, Some, None}
use Rattle.std.specs.List.{flat_map}
use Rattle.std.specs.Str.{IsUtf8}
use Rattle.sd_sid.specs.Sid.{SidValue}
use Rattle.sd_sid.specs.SidBytes.{bytes_of_sid}
use Rattle.sd_text.specs.Alias.{in_domain}
use Rattle.sd_text.specs.Canon.{full_canon}
use Rattle.sd_text.specs.declared.alias.Aliases.{Aliases}
use Rattle.sd_text.specs.declared.domain.Domain.{Domain}
use Rattle.sd_accounts.specs.Row.{AccountRow}
use Rattle.sd_accounts.specs.Users.{users_of}
use Rattle.sd_accounts.specs.declared.fault.AccountsFault.{AccountsFault}
use Rattle.sd_accounts.specs.declared.fault.AccountsFault.TheVariants.{Keyword, Sid, Name, Surplus, Incomplete}
use Rattle.sd_accounts.specs.declared.names.NameError.{NameError}
use Rattle.sd_accounts.specs.declared.names.NameError.TheVariants.{Unknown, Ambiguous}
use Rattle.sd_named.specs.Arguments.{IsUserError}
use Rattle.sd_named.specs.File.{AreAccounts, IsFileError}
use Rattle.sd_named.specs.Sids.{AreSidsOfUser}
use Rattle.sd_named.specs.declared.arguments.NamedError.{NamedError}
use Rattle.sd_named.specs.declared.arguments.NamedError.TheVariants as names
use Rattle.sd_named.specs.declared.file.FileError.{FileError}
use Rattle.sd_named.specs.declared.file.FileError.TheVariants as files
use Rattle.sd_c.specs.declared.accounts.NotAnswered.{NotAnswered}
use Rattle.sd_c.specs.declared.accounts.NotAnswered.TheVariants as reasons
use Rattle.sd_c.specs.declared.call_answer.Written.{Written}
use Rattle.sd_c.specs.declared.handle.Handle.{Handle}
use Rattle.sd_c.specs.declared.handle.kept.Kept.{Kept}
use Rattle.sd_c.specs.declared.refusal.Refusal.{Refusal}
use Rattle.sd_c.specs.declared.refusal.Refusal.TheVariants.{Memory, Utf8}
use Rattle.sd_c.specs.InDomain.{IsDomainArgument, RefusesDomain}
use Rattle.sd_c.specs.Kept.{InUse, Keeps, accounts_in}
use Rattle.sd_c.specs.Written.{IsNotUtf8, Writes, not_written, refused}

-- ---- answers

-- why a line is no row
abbrev pub row_number : AccountsFault → ℕ
row_number Keyword = 1
row_number Sid = 2
row_number Name = 3
row_number Surplus = 4
row_number Incomplete = 5

-- the text of a file is refused: it isn't UTF-8, or the line with this number, from 1, is no row
abbrev pub no_file : FileError → Written
no_file (files.Utf8 at) = not_written 3 0 at
no_file (files.Row line kind) = not_written 26 (row_number kind) line
no_file files.Memory = not_written 1 0 0

-- why a text means no one account
abbrev pub name_number : NameError → ℕ
name_number Unknown = 1
name_number Ambiguous = 2

-- why it means no user that may log on. (There are no words here, so none is refused.)
abbrev pub no_user : NamedError → Written
no_user (names.User error) = not_written 27 (name_number error) 0
no_user (names.Word place error) = not_written 27 (name_number error) 0
no_user names.NoUser = not_written 27 3 0
no_user names.Disabled = not_written 27 4 0
no_user names.Memory = not_written 1 0 0

abbrev pub not_answered : NotAnswered → Written
not_answered reasons.Handle = not_written 11 0 0
not_answered (reasons.Refused why) = refused why
not_answered (reasons.User error) = no_user error

-- ---- what is kept

-- accounts of which this holds are kept
abbrev pub HasAccounts : (List AccountRow → Type 0) → Kept → Type 0
HasAccounts Holds kept = (rows : List AccountRow) × (accounts_in kept ≡ Some rows) × Holds rows

-- an empty handle keeps the accounts of the text, or nothing for a reason that holds; one in use is unchanged
abbrev pub KeepsAccounts : List ℕ → Handle → Handle → Written → Type 0
KeepsAccounts text old new answer =
    ((kept : Kept) × (old.is_there ≡ 0) × IsUtf8 text × HasAccounts (AreAccounts text) kept × Keeps new kept
    × (answer ≡ not_written 0 0 0))
    ⊎ ((why : FileError) × (old.is_there ≡ 0) × IsFileError text why × (new ≡ old) × (answer ≡ no_file why))
    ⊎ InUse old new answer

-- ---- what is written

-- right bytes are written, or the buffer is too small for them; or nothing is, for a reason that holds
abbrev pub WritesFrom : (Kept → List ℕ → Type 0) → (Kept → NotAnswered → Type 0) → Handle → List ℕ → List ℕ → Written
    → Type 0
WritesFrom AreRight Holds handle old new answer =
    ((bytes : List ℕ) × (handle.is_there ≡ 1) × AreRight handle.seal.kept bytes × Writes bytes old new answer)
    ⊎ ((why : NotAnswered) × (handle.is_there ≡ 1) × Holds handle.seal.kept why × (new ≡ old)
    × (answer ≡ not_answered why))
    ⊎ ((handle.is_there ≡ 0) × (new ≡ old) × (answer ≡ not_answered reasons.Handle))

-- the SIDs of the token of the user whom the text means, one after the other
abbrev pub AreSidBytes : List AccountRow → Aliases → List ℕ → List ℕ → Type 0
AreSidBytes rows known user bytes =
    (sids : List SidValue) × AreSidsOfUser rows known user sids × (bytes ≡ flat_map bytes_of_sid sids)

-- by the accounts that are kept, for a text in which SIDs may have the aliases of the domain, if one is given
abbrev pub IsTokenIn : (domain user : List ℕ) → Kept → List ℕ → Type 0
IsTokenIn domain user kept bytes = (known : Option Domain) × IsDomainArgument domain known × IsUtf8 user
    × HasAccounts (λ rows. AreSidBytes rows (in_domain known) user bytes) kept

-- the text means no user that may log on
abbrev pub RefusesNamed : List AccountRow → Aliases → List ℕ → NotAnswered → Type 0
RefusesNamed rows known user reasons.Handle = ⊥
RefusesNamed rows known user (reasons.Refused why) = why ≡ Memory
RefusesNamed rows known user (reasons.User error) = IsUserError rows known user [] error

-- the handle keeps no accounts; or of the arguments the first that is refused: the domain's bytes, the user's text, and
-- whom that means
abbrev pub RefusesUser : (domain user : List ℕ) → Kept → NotAnswered → Type 0
RefusesUser domain user kept why =
    ((accounts_in kept ≡ None) × (why ≡ reasons.Handle))
    ⊎ HasAccounts (λ rows.
    ((fault : Refusal) × (why ≡ reasons.Refused fault) × (0 < length domain) × RefusesDomain domain fault)
    ⊎ ((known : Option Domain) × IsDomainArgument domain known
    × (((place : ℕ) × (why ≡ reasons.Refused (Utf8 place)) × IsNotUtf8 user place)
    ⊎ (IsUtf8 user × RefusesNamed rows (in_domain known) user why)))) kept

-- a line for a user: its SID in full, a blank, its name, and a newline
abbrev pub user_line : SidValue × List ℕ → List ℕ
user_line user = full_canon user.0 ++ 32 ∷ (user.1 ++ 10 ∷ [])

abbrev pub users_text : List AccountRow → List ℕ
users_text rows = flat_map user_line (users_of rows)

abbrev pub AreUsersIn : Kept → List ℕ → Type 0
AreUsersIn kept bytes = HasAccounts (λ rows. bytes ≡ users_text rows) kept

-- the handle keeps no accounts, or out of memory
abbrev pub RefusesUsers : Kept → NotAnswered → Type 0
RefusesUsers kept reasons.Handle = accounts_in kept ≡ None
RefusesUsers kept (reasons.Refused why) = HasAccounts (λ rows. why ≡ Memory) kept
RefusesUsers kept (reasons.User error) = ⊥
