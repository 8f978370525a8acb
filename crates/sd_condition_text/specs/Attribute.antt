-- The names of attributes in a condition's text ([MS-DTYP] 2.5.1.1, attr-name).
use Rattle.std.specs.Prelude.{ℕ, Bool, not, ◌&&◌, ◌||◌, ◌==◌, nat_le, List, [], ◌∷◌, ◌++◌, length, Option, Some, None}
use Rattle.std.specs.Prelude.{codes, if◌then◌else◌}
use Rattle.std.specs.Char.Escape.{hex_digit_at}
use Rattle.std.specs.Char.Utf16.{has_unpaired_surrogate}
use Rattle.std.specs.List.{flat_map, list_all, list_any}
use Rattle.std.specs.Str.{str_eq_ignore_ascii_case}
use Rattle.sd_data.specs.Writing.{has_no_zero}
use Rattle.sd_condition.specs.declared.attribute.Attribute.{Attribute}
use Rattle.sd_condition.specs.declared.attribute.Scope.{Scope}
use Rattle.sd_condition.specs.declared.attribute.Scope.TheVariants.{Local, User, Resource, Device}

-- whether units are UTF-16, of which none is zero
abbrev pub is_text : List ℕ → Bool
is_text units = not (has_unpaired_surrogate units) && has_no_zero units

-- ---- a name without a prefix (attr-name1)

abbrev pub is_between : ℕ → ℕ → ℕ → Bool
is_between low high unit = nat_le low unit && nat_le unit high

-- a digit, a letter, or one of `:./_` (attr-char1)
abbrev pub is_plain : ℕ → Bool
is_plain unit =
    is_between 0x30 0x39 unit || is_between 0x41 0x5a unit || is_between 0x61 0x7a unit
    || list_any (λ mark. mark == unit) (0x3a ∷ 0x2e ∷ 0x2f ∷ 0x5f ∷ [])

-- the words that begin a condition, in which case doesn't matter (memberof-op, exists-op)
abbrev pub opening_words : List (List ℕ)
opening_words =
    codes "Exists" ∷ codes "Not_Exists" ∷ codes "Member_of" ∷ codes "Device_Member_of" ∷ codes "Member_of_Any"
    ∷ codes "Device_Member_of_Any" ∷ codes "Not_Member_of" ∷ codes "Not_Device_Member_of"
    ∷ codes "Not_Member_of_Any" ∷ codes "Not_Device_Member_of_Any" ∷ []

abbrev pub is_opening_word : List ℕ → Bool
is_opening_word name = list_any (λ word. str_eq_ignore_ascii_case name word) opening_words

-- no unit has an escape here, and a word that begins a condition would be parsed as that
unfoldable pub plain_name : List ℕ → Option (List ℕ)
plain_name name =
    if not (length name == 0) && list_all is_plain name && not (is_opening_word name) then Some name else None

-- ---- a name with a prefix (attr-name2)

-- the marks that stand only as an escape: `!"%&()<=>|`
abbrev pub is_escaped_mark : ℕ → Bool
is_escaped_mark unit = list_any (λ mark. mark == unit)
    (0x21 ∷ 0x22 ∷ 0x25 ∷ 0x26 ∷ 0x28 ∷ 0x29 ∷ 0x3c ∷ 0x3d ∷ 0x3e ∷ 0x7c ∷ [])

-- a visible character of ASCII but those marks (attr-char2)
abbrev pub is_literal : ℕ → Bool
is_literal unit = is_between 0x21 0x7e unit && not (is_escaped_mark unit)

-- a percent sign and four hexadecimal digits (lit-char)
abbrev pub escape : ℕ → List ℕ
escape unit = 0x25 ∷ hex_digit_at 0x1000 unit ∷ hex_digit_at 0x100 unit ∷ hex_digit_at 0x10 unit ∷ hex_digit_at 1 unit
    ∷ []

abbrev pub unit_text : ℕ → List ℕ
unit_text unit = if is_literal unit then unit ∷ [] else escape unit

unfoldable pub prefixed_name : List ℕ → List ℕ → Option (List ℕ)
prefixed_name prefix name =
    if not (length name == 0) && is_text name then Some (prefix ++ flat_map unit_text name) else None

-- ---- attributes

abbrev pub name_in : Scope → List ℕ → Option (List ℕ)
name_in Local = plain_name
name_in User = prefixed_name (codes "@USER.")
name_in Resource = prefixed_name (codes "@RESOURCE.")
name_in Device = prefixed_name (codes "@DEVICE.")

abbrev pub attribute_text : Attribute → Option (List ℕ)
attribute_text attribute = name_in attribute.scope attribute.name
