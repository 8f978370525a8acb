-- How a claim is parsed ([MS-DTYP] 2.4.10.1): the header, and at each offset the name or a value, wherever in the data
-- it is. Parts that overlap are accepted, as long as all of them together take no more bytes than the data has after
-- the header and the offsets: so what is parsed is never larger than the data.
use Rattle.std.specs.Prelude.{ℕ, ◌+◌, ◌-◌, not, ◌==◌, nat_lt, List, [], ◌∷◌, length, slice_range, Option, Some, None}
use Rattle.std.specs.Prelude.{if◌then◌else◌}
use Rattle.std.specs.Int.{w16, from_le_bytes}
use Rattle.sd_sid.specs.SidBytes.{u32_at, u32s_at}
use Rattle.sd_claim.specs.Claim.{ClaimValue, claim_value}
use Rattle.sd_data.specs.Outcome.{◌>>=◌}
use Rattle.sd_data.specs.Reading.{after, i64_at, text_read, u16_at, u64_at}
use Rattle.sd_claim.specs.Table.{layout_of, type_read}
use Rattle.sd_claim.specs.Writing.{header_len, is_claim}
use Rattle.sd_claim.specs.declared.value.Value.{Value}
use Rattle.sd_claim.specs.declared.value.Value.TheVariants as values
use Rattle.sd_claim.specs.declared.value_type.Layout.{Layout}
use Rattle.sd_claim.specs.declared.value_type.Layout.TheVariants.{Number, TerminatedText, OctetString}
use Rattle.sd_claim.specs.declared.value_type.ValueType.{ValueType}
use Rattle.sd_claim.specs.declared.value_type.ValueType.TheVariants.{Integer, Unsigned, Text, Sid, Boolean, Octets}

-- ---- parts

-- how many bytes a text takes at the front of the bytes, with the zero unit that ends it
unfoldable pub terminated_len : List ℕ → Option ℕ
terminated_len [] = None
terminated_len (low ∷ []) = None
terminated_len (low ∷ high ∷ rest) =
    if from_le_bytes w16 (low ∷ high ∷ []) == 0 then Some 2
    else (terminated_len rest >>= λ n. Some (2 + n))

abbrev pub number_len : List ℕ → Option ℕ
number_len bytes = if nat_lt (length bytes) 8 then None else Some 8

-- how many bytes an octet string takes (2.4.10.2): its length in four bytes, and so many octets
abbrev pub octet_string_len : List ℕ → Option ℕ
octet_string_len bytes =
    if nat_lt (length bytes) 4 then None
    else if nat_lt (length bytes) (4 + u32_at bytes 0) then None
    else Some (4 + u32_at bytes 0)

-- how many bytes the part at the front of the bytes takes
abbrev pub front_len : Layout → List ℕ → Option ℕ
front_len Number bytes = number_len bytes
front_len TerminatedText bytes = terminated_len bytes
front_len OctetString bytes = octet_string_len bytes

-- no more than so many bytes
abbrev pub at_most : ℕ → ℕ → Option ℕ
at_most room n = if nat_lt room n then None else Some n

-- how many bytes the part at an offset takes, if there is room for it
unfoldable pub part_len : Layout → List ℕ → ℕ → ℕ → Option ℕ
part_len layout bytes o room =
    if nat_lt (length bytes) o then None
    else (front_len layout (after o bytes) >>= at_most room)

-- ---- values

-- the text of a part, without the zero that ends it
abbrev pub text_of_part : List ℕ → Option (List ℕ)
text_of_part part = text_read (slice_range part 0 (length part - 2))

-- the value of a part
unfoldable pub value_read : ValueType → List ℕ → Option Value
value_read Integer part = Some (values.Integer (i64_at part 0))
value_read Unsigned part = Some (values.Unsigned (u64_at part 0))
value_read Text part = text_of_part part >>= λ text. Some (values.Text text)
value_read Sid part = Some (values.Sid (after 4 part))
value_read Boolean part = Some (values.Boolean (u64_at part 0))
value_read Octets part = Some (values.Octets (after 4 part))

-- the value at an offset, if there is room for it, and how many bytes it takes
unfoldable pub value_at : ValueType → List ℕ → ℕ → ℕ → Option (Value × ℕ)
value_at value_type bytes o room =
    part_len (layout_of value_type) bytes o room >>= λ n.
    (value_read value_type (slice_range bytes o (o + n)) >>= λ value.
    Some (value, n))

-- the values at offsets, if there is room for all of them
abbrev pub values_read : ValueType → List ℕ → ℕ → List ℕ → Option (List Value)
values_read value_type bytes room [] = Some []
values_read value_type bytes room (o ∷ offsets) =
    value_at value_type bytes o room >>= λ first.
    (values_read value_type bytes (room - first.1) offsets >>= λ others.
    Some (first.0 ∷ others))

-- ---- claims

-- what is parsed, if it is a claim
abbrev pub claim_of : ClaimValue → Option ClaimValue
claim_of c = if is_claim c then Some c else None

-- the type of the values, if the header is one: ValueType is known, Reserved is zero, and the data has room for the
-- offsets
unfoldable pub header_read : List ℕ → Option ValueType
header_read bytes =
    if nat_lt (length bytes) 16 then None
    else if not (u16_at bytes 6 == 0) then None
    else if nat_lt (length bytes) (header_len (u32_at bytes 12)) then None
    else type_read (u16_at bytes 4)

-- how many bytes the data has after the header and the offsets
abbrev pub room_of : List ℕ → ℕ
room_of bytes = length bytes - header_len (u32_at bytes 12)

-- the name, if there is room for it, and how many bytes it takes
unfoldable pub name_read : List ℕ → Option (List ℕ × ℕ)
name_read bytes =
    part_len TerminatedText bytes (u32_at bytes 0) (room_of bytes) >>= λ n.
    (text_of_part (slice_range bytes (u32_at bytes 0) (u32_at bytes 0 + n)) >>= λ name.
    Some (name, n))

-- the claim of an entry's application data
unfoldable pub claim_read : List ℕ → Option ClaimValue
claim_read bytes =
    header_read bytes >>= λ value_type.
    (name_read bytes >>= λ name.
    (values_read value_type bytes (room_of bytes - name.1) (u32s_at bytes 16 (u32_at bytes 12)) >>= λ values.
    claim_of (claim_value name.0 (u32_at bytes 8) value_type values)))
