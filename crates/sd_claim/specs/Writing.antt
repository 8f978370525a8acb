-- The one written form of a claim ([MS-DTYP] 2.4.10.1): the header, the offsets of the values, the name, the values,
-- without gaps, and zero bytes up to the next multiple of four.
use Rattle.std.specs.Prelude.{ℕ, ◌+◌, ◌*◌, Bool, true, ◌&&◌, nat_le, List, [], ◌∷◌, ◌++◌, length}
use Rattle.std.specs.Prelude.{replicate}
use Rattle.std.specs.Int.{w16, w32, w64, cast_unsigned, to_le_bytes}
use Rattle.std.specs.List.{flat_map, list_all}
use Rattle.sd_data.specs.Writing.{has_no_zero, padding_len, text_bytes}
use Rattle.sd_claim.specs.Claim.{ClaimValue}
use Rattle.sd_claim.specs.Table.{same_type, type_number, type_of}
use Rattle.sd_claim.specs.declared.value.Value.{Value}
use Rattle.sd_claim.specs.declared.value.Value.TheVariants as values
use Rattle.sd_claim.specs.declared.value_type.ValueType.{ValueType}

-- ---- values

-- a text, and the zero unit that ends it
abbrev pub terminated : List ℕ → List ℕ
terminated units = text_bytes units ++ 0 ∷ 0 ∷ []

-- an octet string (2.4.10.2): its length in four bytes, the octets
abbrev pub octet_string : List ℕ → List ℕ
octet_string octets = to_le_bytes w32 (length octets) ++ octets

unfoldable pub value_bytes : Value → List ℕ
value_bytes (values.Integer number) = to_le_bytes w64 (cast_unsigned w64 number)
value_bytes (values.Unsigned number) = to_le_bytes w64 number
value_bytes (values.Text text) = terminated text
value_bytes (values.Sid octets) = octet_string octets
value_bytes (values.Boolean number) = to_le_bytes w64 number
value_bytes (values.Octets octets) = octet_string octets

-- ---- claims

-- how many bytes precede the name, where there are so many values: the header, and an offset for each
abbrev pub header_len : ℕ → ℕ
header_len count = 16 + 4 * count

-- the offsets of values that follow one another, the first of which is at an offset
abbrev pub offsets_from : ℕ → List Value → List ℕ
offsets_from o [] = []
offsets_from o (v ∷ vs) = o ∷ offsets_from (o + length (value_bytes v)) vs

-- the header: the name's offset, ValueType, Reserved, Flags, ValueCount
abbrev pub header_bytes : ClaimValue → List ℕ
header_bytes c = to_le_bytes w32 (header_len (length c.values)) ++ (to_le_bytes w16 (type_number c.value_type)
    ++ (to_le_bytes w16 0 ++ (to_le_bytes w32 c.flags ++ to_le_bytes w32 (length c.values))))

-- the offset of the first value, after the name
abbrev pub values_place : ClaimValue → ℕ
values_place c = header_len (length c.values) + length (terminated c.name)

-- the header, the offsets, the name, the values
unfoldable pub claim_bytes : ClaimValue → List ℕ
claim_bytes c = header_bytes c ++ (flat_map (to_le_bytes w32) (offsets_from (values_place c) c.values)
    ++ (terminated c.name ++ flat_map value_bytes c.values))

-- how many bytes these are
abbrev pub claim_len : List ℕ → List Value → ℕ
claim_len name vs = header_len (length vs) + length (terminated name) + length (flat_map value_bytes vs)

-- the claim, and the padding
unfoldable pub claim_data : ClaimValue → List ℕ
claim_data c = claim_bytes c ++ replicate (padding_len (length (claim_bytes c))) 0

-- ---- which values are a claim

abbrev pub is_value : Value → Bool
is_value (values.Integer number) = true
is_value (values.Unsigned number) = true
is_value (values.Text text) = has_no_zero text
is_value (values.Sid octets) = true
is_value (values.Boolean number) = true
is_value (values.Octets octets) = true

-- a value of this type
abbrev pub is_value_of : ValueType → Value → Bool
is_value_of value_type v = same_type (type_of v) value_type && is_value v

-- each value is of the type, no text has a zero in it, and the data has at most 65,535 bytes: the size of an entry has
-- 16 bits (2.4.4.1)
unfoldable pub is_claim : ClaimValue → Bool
is_claim c =
    has_no_zero c.name && (list_all (is_value_of c.value_type) c.values && nat_le (length (claim_data c)) 65535)
