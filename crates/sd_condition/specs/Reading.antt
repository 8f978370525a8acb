-- How a condition is parsed: each token at the front of the bytes, and how many bytes it takes ([MS-DTYP] 2.4.4.17.4).
use Rattle.std.specs.Prelude.{ℕ, zero, suc, ◌+◌, ◌%◌, Bool, not, ◌&&◌, ◌==◌, nat_lt, nat_le, List, [], ◌∷◌, length}
use Rattle.std.specs.Prelude.{slice_index, slice_range, Option, Some, None, Result, Ok, Err, if◌then◌else◌}
use Rattle.std.specs.List.{list_all}
use Rattle.sd_sid.specs.Sid.{SidValue}
use Rattle.sd_sid.specs.SidBytes.{u32_at, sid_reading}
use Rattle.sd_sid.specs.declared.sid.SidError.{SidError}
use Rattle.sd_data.specs.Outcome.{◌>>=◌}
use Rattle.sd_data.specs.Reading.{after, i64_at, text_read}
use Rattle.sd_condition.specs.Table.{base_read, operator_read, scope_read, sign_read, width_read}
use Rattle.sd_condition.specs.Writing.{is_condition}
use Rattle.sd_condition.specs.declared.attribute.Attribute.{Attribute}
use Rattle.sd_condition.specs.declared.integer.Integer.{Integer}
use Rattle.sd_condition.specs.declared.token.Token.{Token}
use Rattle.sd_condition.specs.declared.token.Token.TheVariants as tokens
use Rattle.sd_condition.specs.declared.value.Value.{Value}
use Rattle.sd_condition.specs.declared.value.Value.TheVariants as values

-- ---- values (2.4.4.17.5)

-- an integer: the width, eight bytes of value, the sign, the base
unfoldable pub integer_read : List ℕ → Option Integer
integer_read bytes =
    if nat_lt (length bytes) 11 then None
    else (width_read (slice_index bytes 0) >>= λ width.
    (sign_read (slice_index bytes 9) >>= λ sign.
    (base_read (slice_index bytes 10) >>= λ base.
    Some (record { width = width; value = i64_at bytes 1; sign = sign; base = base }))))

-- a SID that takes all of so many bytes
abbrev pub whole_sid : ℕ → Result (SidValue × ℕ) SidError → Option SidValue
whole_sid n (Ok x) = if x.1 == n then Some x.0 else None
whole_sid n (Err e) = None

-- a SID: all of the bytes
abbrev pub sid_read : List ℕ → Option SidValue
sid_read bytes = whole_sid (length bytes) (sid_reading bytes)

-- how long a token's content is, if it doesn't pass the end: a token with a content has its byte, four bytes of
-- length, and the content
unfoldable pub content_len : List ℕ → Option ℕ
content_len bytes =
    if nat_lt (length bytes) 5 then None
    else if nat_lt (length bytes) (5 + u32_at bytes 1) then None
    else Some (u32_at bytes 1)

-- the value of a token's byte and content
unfoldable pub literal_read : ℕ → List ℕ → Option Value
literal_read byte content =
    if byte == 0x10 then (text_read content >>= λ text. Some (values.Text text))
    else if byte == 0x18 then Some (values.Octets content)
    else if byte == 0x51 then (sid_read content >>= λ sid. Some (values.Sid sid))
    else None

-- the value at the front of the bytes, and how many it takes
unfoldable pub value_read : List ℕ → Option (Value × ℕ)
value_read bytes =
    if nat_le (slice_index bytes 0) 0x04 then (integer_read bytes >>= λ integer. Some (values.Integer integer, 11))
    else (content_len bytes >>= λ n.
    (literal_read (slice_index bytes 0) (slice_range bytes 5 (5 + n)) >>= λ value.
    Some (value, 5 + n)))

-- ---- lists (2.4.4.17.5)

-- values up to the end of the bytes, each where the one before it ends, and so many at most
unfoldable pub values_read : ℕ → List ℕ → Option (List Value)
values_read zero bytes = if length bytes == 0 then Some [] else None
values_read (suc n) bytes =
    if length bytes == 0 then Some []
    else (value_read bytes >>= λ first.
    (values_read n (after first.1 bytes) >>= λ others.
    Some (first.0 ∷ others)))

-- a list: all of the bytes. A value takes a byte at least, so there are no more values than bytes
abbrev pub list_read : List ℕ → Option (List Value)
list_read bytes = values_read (length bytes) bytes

-- ---- attributes (2.4.4.17.8)

-- the attribute of a token's byte and content
abbrev pub attribute_read : ℕ → List ℕ → Option Attribute
attribute_read byte content =
    scope_read byte >>= λ scope.
    (text_read content >>= λ name.
    Some (record { scope = scope; name = name }))

-- ---- tokens (2.4.4.17.4)

-- the token at the front of the bytes, and how many it takes: attributes begin at 0xf8, operators at 0x80
unfoldable pub token_read : List ℕ → Option (Token × ℕ)
token_read bytes =
    if nat_le 0xf8 (slice_index bytes 0) then (content_len bytes >>= λ n.
    (attribute_read (slice_index bytes 0) (slice_range bytes 5 (5 + n)) >>= λ attribute.
    Some (tokens.Attribute attribute, 5 + n)))
    else if nat_le 0x80 (slice_index bytes 0) then (operator_read (slice_index bytes 0) >>= λ operator.
    Some (tokens.Operator operator, 1))
    else if slice_index bytes 0 == 0x50 then (content_len bytes >>= λ n.
    (list_read (slice_range bytes 5 (5 + n)) >>= λ list.
    Some (tokens.List list, 5 + n)))
    else (value_read bytes >>= λ value. Some (tokens.Value value.0, value.1))

-- ---- conditions (2.4.4.17.4)

-- fewer than four bytes, which are zeros
abbrev pub is_padding : List ℕ → Bool
is_padding bytes = nat_lt (length bytes) 4 && list_all (λ byte. byte == 0) bytes

-- tokens up to the padding, which begins where no byte of a token is, and so many at most
unfoldable pub tokens_read : ℕ → List ℕ → Option (List Token)
tokens_read zero bytes = if is_padding bytes then Some [] else None
tokens_read (suc n) bytes =
    if slice_index bytes 0 == 0 then (if is_padding bytes then Some [] else None)
    else (token_read bytes >>= λ first.
    (tokens_read n (after first.1 bytes) >>= λ others.
    Some (first.0 ∷ others)))

-- tokens and padding: all of the bytes. A token takes a byte at least
abbrev pub padded_read : List ℕ → Option (List Token)
padded_read bytes = tokens_read (length bytes) bytes

-- tokens, if they are a condition
abbrev pub condition_of : List Token → Option (List Token)
condition_of ts = if is_condition ts then Some ts else None

-- the condition of an entry's application data: `artx`, tokens, and padding to a multiple of four
unfoldable pub condition_read : List ℕ → Option (List Token)
condition_read bytes =
    if nat_lt (length bytes) 4 then None
    else if not (length bytes % 4 == 0) then None
    else if not (u32_at bytes 0 == 0x78747261) then None
    else (padded_read (after 4 bytes) >>= condition_of)
