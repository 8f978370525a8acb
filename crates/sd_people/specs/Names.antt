-- The names by which SIDs are shown.
use Rattle.std.specs.Prelude.{◌≡◌, ℕ, ◌==◌, Bool, false, List, Option, Some, None, option_map}
use Rattle.std.specs.Prelude.{Contains, String, string_bytes}
use Rattle.std.specs.declared.alloc.Global.{Global}
use Rattle.std.specs.HashMap.{HashMap, get_by}
use Rattle.std.specs.List.{list_any}
use Rattle.sd_sid.specs.Sid.{SidValue, same_sid}
use Rattle.sd_text.specs.declared.alias.Aliases.{Aliases}
use Rattle.sd_accounts.specs.Names.{first_name}
use Rattle.sd_accounts.specs.Row.{AccountRow}
use Rattle.sd_named.specs.Trustee.{Means}
use Rattle.sd_commands.specs.Escaped.{escaped}
use Rattle.sd_people.specs.declared.names.Names.{Names}

abbrev pub has_byte : ℕ → List ℕ → Bool
has_byte byte text = list_any (λ b. b == byte) text

-- the first name that the accounts give the SID, if it means this SID alone and has no quotation mark
pub record IsNameOf (rows : List AccountRow) (known : Aliases) (sid : SidValue) (name : List ℕ) : Type 0 where
  pub first : first_name rows sid ≡ Some name
  pub means : Means rows known name sid
  pub unquoted : has_byte 34 name ≡ false

-- a SID is shown by this, a name with what it hides shown by its number; or it has no such name
abbrev pub IsShownAs : List AccountRow → Aliases → SidValue → Option (List ℕ) → Type 0
IsShownAs rows known sid (Some shown) =
    (name : List ℕ) × IsNameOf rows known sid name × (shown ≡ escaped name)
IsShownAs rows known sid None = (name : List ℕ) → IsNameOf rows known sid name → ⊥

-- each of the SIDs is shown so
abbrev pub AreNames : List AccountRow → Aliases → (SidValue → Option (List ℕ)) → List SidValue → Type 0
AreNames rows known names sids = (sid : SidValue) → Contains sids sid → IsShownAs rows known sid (names sid)

-- ---- names that are kept

-- what is kept of a SID, once it is looked up
abbrev pub Kept : Type 0
Kept = Option (String Global)

abbrev pub name_kept : Kept → Option (List ℕ)
name_kept name = option_map string_bytes name

abbrev pub kept_name : Option Kept → Option (List ℕ)
kept_name None = None
kept_name (Some name) = name_kept name

abbrev pub kept_in : {S : Type 0} → HashMap SidValue Kept S → SidValue → Option Kept
kept_in names sid = get_by (same_sid sid) names

abbrev pub names_in : Names → SidValue → Option (List ℕ)
names_in names sid = kept_name (kept_in names.map sid)

-- what is kept is right; and something is kept of this SID
abbrev pub AreRight : {S : Type 0} → List AccountRow → Aliases → HashMap SidValue Kept S → Type 0
AreRight rows known names = (sid : SidValue) (name : Kept) → kept_in names sid ≡ Some name
    → IsShownAs rows known sid (name_kept name)

abbrev pub IsKept : {S : Type 0} → HashMap SidValue Kept S → SidValue → Type 0
IsKept names sid = (name : Kept) × (kept_in names sid ≡ Some name)
