-- Values in a condition's text ([MS-DTYP] 2.5.1.1, value and value-array).
use Rattle.std.specs.Prelude.{ℕ, ℤ, pos, ◌-◌, Bool, true, false, not, ◌&&◌, ◌||◌, ◌==◌, nat_lt, List, [], ◌∷◌, ◌++◌}
use Rattle.std.specs.Prelude.{length, replicate, unsigned_abs, int_le, Option, Some, None, codes, if◌then◌else◌}
use Rattle.std.specs.Char.Utf16.{has_unpaired_surrogate, utf16_lossy_chars}
use Rattle.std.specs.Fmt.{digits, ◌++?◌}
use Rattle.std.specs.List.{flat_map, list_any}
use Rattle.std.specs.Str.{encode_utf8_all}
use Rattle.sd_sid.specs.Sid.{SidValue}
use Rattle.sd_text.specs.Canon.{sid_canon}
use Rattle.sd_condition.specs.declared.integer.Base.{Base}
use Rattle.sd_condition.specs.declared.integer.Base.TheVariants.{Octal, Decimal, Hexadecimal}
use Rattle.sd_condition.specs.declared.integer.Integer.{Integer}
use Rattle.sd_condition.specs.declared.integer.Sign.{Sign}
use Rattle.sd_condition.specs.declared.integer.Sign.TheVariants.{Plus, Minus, Omitted}
use Rattle.sd_condition.specs.declared.integer.Width.{Width}
use Rattle.sd_condition.specs.declared.integer.Width.TheVariants.{Int8, Int16, Int32, Int64}
use Rattle.sd_condition.specs.declared.value.Value.{Value}
use Rattle.sd_condition.specs.declared.value.Value.TheVariants as values
use Rattle.sd_condition_text.specs.Attribute.{is_between}

-- ---- integers (integer-value)

-- the width that an integer of a text has
abbrev pub is_widest : Width → Bool
is_widest Int8 = false
is_widest Int16 = false
is_widest Int32 = false
is_widest Int64 = true

-- whether a number with this sign has this value
abbrev pub sign_fits : Sign → ℤ → Bool
sign_fits Plus value = int_le (pos 0) value
sign_fits Minus value = int_le value (pos 0)
sign_fits Omitted value = int_le (pos 0) value

abbrev pub sign_text : Sign → List ℕ
sign_text Plus = codes "+"
sign_text Minus = codes "-"
sign_text Omitted = []

abbrev pub number_text : Base → ℕ → List ℕ
number_text Octal n = codes "0" ++ digits 8 false n
number_text Decimal n = digits 10 false n
number_text Hexadecimal n = codes "0x" ++ digits 16 false n

unfoldable pub integer_text : Integer → Option (List ℕ)
integer_text i =
    if is_widest i.width && sign_fits i.sign i.value
    then Some (sign_text i.sign ++ number_text i.base (unsigned_abs i.value)) else None

-- ---- texts (string-value): between quotes, which therefore are no part of one

-- control characters, and what else ends a line: a text stays in one line
abbrev pub is_control : ℕ → Bool
is_control unit = nat_lt unit 0x20 || is_between 0x7f 0x9f unit || is_between 0x2028 0x2029 unit

abbrev pub is_unquotable : ℕ → Bool
is_unquotable unit = unit == 0x22 || is_control unit

unfoldable pub quoted_text : List ℕ → Option (List ℕ)
quoted_text units =
    if not (has_unpaired_surrogate units) && not (list_any is_unquotable units)
    then Some (0x22 ∷ (encode_utf8_all (utf16_lossy_chars units) ++ 0x22 ∷ [])) else None

-- ---- octets (octet-string-value): two hexadecimal digits each

abbrev pub octet_text : ℕ → List ℕ
octet_text octet = replicate (2 - length (digits 16 true octet)) 48 ++ digits 16 true octet

abbrev pub octets_text : List ℕ → List ℕ
octets_text octets = codes "#" ++ flat_map octet_text octets

-- ---- SIDs (literal-SID)

abbrev pub sid_text : SidValue → List ℕ
sid_text sid = codes "SID(" ++ sid_canon sid ++ codes ")"

-- ---- values

unfoldable pub value_text : Value → Option (List ℕ)
value_text (values.Integer integer) = integer_text integer
value_text (values.Text text) = quoted_text text
value_text (values.Octets octets) = Some (octets_text octets)
value_text (values.Sid sid) = Some (sid_text sid)

-- values after the first, each after a comma
abbrev pub further_values : List Value → Option (List ℕ)
further_values [] = Some []
further_values (value ∷ list) = Some (codes ", ") ++? value_text value ++? further_values list

abbrev pub values_text : List Value → Option (List ℕ)
values_text [] = Some []
values_text (value ∷ list) = value_text value ++? further_values list

-- a list is between braces, even if it has one value
unfoldable pub list_text : List Value → Option (List ℕ)
list_text list = Some (codes "{") ++? values_text list ++? Some (codes "}")
