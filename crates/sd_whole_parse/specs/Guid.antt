-- The fields of an entry's GUIDs ([MS-DTYP] 2.5.1.1, object-guid and inherit-object-guid; 2.3.4.3).
use Rattle.std.specs.Prelude.{ℕ, ◌+◌, ◌*◌, ◌==◌, Bool, true, false, List, [], ◌∷◌, length, Option, Some, None}
use Rattle.std.specs.Prelude.{Ok, Err, codes, if◌then◌else◌}
use Rattle.sd_text.specs.Entry.{guid as no_guid}
use Rattle.sd_text.specs.Finding.{Found, find}
use Rattle.sd_text.specs.Grammar.{Grammar, Name, name_for, value, refused, choose, word, one_of, begins, ◌>>=◌}
use Rattle.sd_text.specs.declared.fault.TextFault.TheVariants.{Syntax}
use Rattle.sd_whole.specs.Layout.{no_types}
use Rattle.sd_whole.specs.declared.types.Guid.{Guid}
use Rattle.sd_whole.specs.declared.types.ObjectTypes.{ObjectTypes}

-- the hexadecimal digits
abbrev pub hex_digits : List (Name ℕ)
hex_digits =
    name_for (codes "0") 0 ∷ name_for (codes "1") 1 ∷ name_for (codes "2") 2 ∷ name_for (codes "3") 3
    ∷ name_for (codes "4") 4 ∷ name_for (codes "5") 5 ∷ name_for (codes "6") 6 ∷ name_for (codes "7") 7
    ∷ name_for (codes "8") 8 ∷ name_for (codes "9") 9 ∷ name_for (codes "A") 10 ∷ name_for (codes "B") 11
    ∷ name_for (codes "C") 12 ∷ name_for (codes "D") 13 ∷ name_for (codes "E") 14 ∷ name_for (codes "F") 15 ∷ []

-- a digit
unfoldable pub hex_digit : Grammar ℕ
hex_digit = one_of hex_digits (refused Syntax)

-- a byte in two digits
unfoldable pub byte : Grammar ℕ
byte = do
  high ← hex_digit
  low ← hex_digit
  value (16 * high + low)

-- two bytes
unfoldable pub pair : Grammar (ℕ × ℕ)
pair = do
  first ← byte
  second ← byte
  value (first, second)

-- 8-4-4-4-12 digits: the first three groups are little-endian in the bytes
unfoldable pub guid : Grammar Guid
guid = do
  a ← pair
  b ← pair
  u ← word (codes "-")
  c ← pair
  v ← word (codes "-")
  d ← pair
  w ← word (codes "-")
  e ← pair
  x ← word (codes "-")
  f ← pair
  g ← pair
  h ← pair
  value (record {
    bytes = b.1 ∷ b.0 ∷ a.1 ∷ a.0 ∷ c.1 ∷ c.0 ∷ d.1 ∷ d.0
        ∷ e.0 ∷ e.1 ∷ f.0 ∷ f.1 ∷ g.0 ∷ g.1 ∷ h.0 ∷ h.1 ∷ [];
  })

abbrev pub all_of : Found Guid → Option Guid
all_of (Ok found) = if length found.1 == 0 then Some found.0 else None
all_of (Err fault) = None

-- the GUID that all of the text is, if it is one
abbrev pub guid_in : List ℕ → Option Guid
guid_in text = all_of (find guid text)

-- a field of a GUID, perhaps empty, with its `;`
unfoldable pub guid_field : Grammar (Option Guid)
guid_field = choose (λ text. begins text (codes ";"))
    (word (codes ";") >>= λ u. value None)
    (guid >>= λ id. word (codes ";") >>= λ u. value (Some id))

-- both fields, which are empty in entries without object types
unfoldable pub types_of : Bool → Grammar ObjectTypes
types_of false = do
  u ← no_guid
  v ← no_guid
  value no_types
types_of true = do
  object ← guid_field
  inherited ← guid_field
  value (record { object = object; inherited = inherited })
