-- Names in the place of the SIDs of a descriptor's text: [MS-DTYP] 2.5.1.1.
use Rattle.std.specs.Prelude.{◌≡◌, ◌⊎◌, ℕ, ◌==◌, ◌+◌, ◌-◌, Bool, true, false, ◌&&◌, ◌||◌, List, [], ◌∷◌, ◌++◌}
use Rattle.std.specs.Prelude.{Option, Some, None, if◌then◌else◌, length, nat_lt, not, slice_get}
use Rattle.std.specs.Str.{IsUtf8}
use Rattle.sd_sid.specs.Sid.{SidValue}
use Rattle.sd_text.specs.Canon.{full_canon}
use Rattle.sd_text.specs.Grammar.{Spells}
use Rattle.sd_text.specs.Sid.{sid_text_in}
use Rattle.sd_text.specs.declared.alias.Aliases.{Aliases}
use Rattle.sd_accounts.specs.Names.{NamesOne}
use Rattle.sd_accounts.specs.Row.{AccountRow}
use Rattle.sd_named.specs.declared.sddl.Place.{Place}
use Rattle.sd_named.specs.declared.sddl.TheConstants.{BEFORE}

-- ---- where SIDs stand

-- a step in the text, and whether the byte is one of a SID
abbrev pub Step : Type 0
Step = Place × Bool

-- outside of brackets: a part begins by its letter before a colon, and what follows of an owner or a group is its SID
abbrev pub is_sid_part : ℕ → Bool
is_sid_part part = (part == 79 || part == 111) || (part == 71 || part == 103)

abbrev pub is_colon : Option ℕ → Bool
is_colon None = false
is_colon (Some b) = b == 58

abbrev pub step_outside : Place → ℕ → Option ℕ → Step
step_outside place b next =
    if b == 40 then (record place { depth = 1; fields = 0 }, false)
    else if is_colon next then (record place { part = b }, false)
    else (place, is_sid_part place.part && not (b == 58))

-- in brackets
abbrev pub opened : Place → Place
opened place = record place { depth = place.depth + 1 }

abbrev pub closed : Place → Place
closed place = record place { depth = place.depth - 1 }

-- in the sixth field of an entry, its trustee: a semicolon ends it, or the bracket that closes the entry
abbrev pub step_trustee : Place → ℕ → Step
step_trustee place b =
    if b == 59 then (record place { fields = 6 }, false)
    else if b == 40 then (opened place, true)
    else if b == 41 then (closed place, nat_lt 1 place.depth)
    else (place, true)

-- a semicolon within the entry, and not further within, ends one of its first fields
abbrev pub with_field : Place → Place
with_field place =
    if place.depth == 1 && nat_lt place.fields 5 then record place { fields = place.fields + 1 } else place

-- in another field; a string of a condition or of a claim may have brackets and semicolons
abbrev pub step_other : Place → ℕ → Place
step_other place b =
    if b == 40 then opened place
    else if b == 41 then closed place
    else if b == 59 then with_field place
    else if b == 34 then record place { quoted = true }
    else place

abbrev pub step : Place → ℕ → Option ℕ → Step
step place b next =
    if place.quoted then (if b == 34 then record place { quoted = false } else place, false)
    else if place.depth == 0 then step_outside place b next
    else if place.fields == 5 then step_trustee place b
    else (step_other place b, false)

-- ---- what stands there

-- the text spells no SID, and is the name of one account
abbrev pub IsNamedSid : List AccountRow → Aliases → List ℕ → SidValue → Type 0
IsNamedSid rows known text sid =
    ((one : SidValue) → Spells (sid_text_in known) text one → ⊥) × NamesOne rows text sid

abbrev pub IsNameOf : List AccountRow → Aliases → List ℕ → SidValue → Type 0
IsNameOf rows known field sid = IsUtf8 field × IsNamedSid rows known field sid

-- such a name gives way to the SID in full; any other field stands
abbrev pub IsField : List AccountRow → Aliases → List ℕ → List ℕ → Type 0
IsField rows known [] shown = shown ≡ []
IsField rows known (b ∷ bs) shown =
    ((sid : SidValue) × IsNameOf rows known (b ∷ bs) sid × (shown ≡ full_canon sid))
    ⊎ (((sid : SidValue) → IsNameOf rows known (b ∷ bs) sid → ⊥) × (shown ≡ b ∷ bs))

-- the text up to a byte, where it stands then, the SID that it is within, and what is before that, with SIDs in the
-- place of names
pub data IsRead (rows : List AccountRow) (known : Aliases) (text : List ℕ)
    : ℕ → Place → (field before : List ℕ) → Type 0 where
  begun : IsRead rows known text 0 BEFORE [] []
  in_sid : (i : ℕ) (place after : Place) (field before : List ℕ) (b : ℕ) → IsRead rows known text i place field before
      → slice_get text i ≡ Some b → step place b (slice_get text (i + 1)) ≡ (after, true)
      → IsRead rows known text (i + 1) after (field ++ b ∷ []) before
  outside : (i : ℕ) (place after : Place) (field shown before : List ℕ) (b : ℕ)
      → IsRead rows known text i place field before → slice_get text i ≡ Some b
      → step place b (slice_get text (i + 1)) ≡ (after, false) → IsField rows known field shown
      → IsRead rows known text (i + 1) after [] ((before ++ shown) ++ b ∷ [])

-- the text with SIDs in the place of names; were that no UTF-8, it stands as it is
pub record IsNamedSddl (rows : List AccountRow) (known : Aliases) (text named : List ℕ) : Type 0 where
  pub place : Place
  pub field : List ℕ
  pub before : List ℕ
  pub shown : List ℕ
  pub is_read : IsRead rows known text (length text) place field before
  pub is_field : IsField rows known field shown
  pub is_named : (named ≡ before ++ shown) ⊎ ((IsUtf8 (before ++ shown) → ⊥) × (named ≡ text))
