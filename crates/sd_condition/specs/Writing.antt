-- The application data of a condition ([MS-DTYP] 2.4.4.17.4): `artx`, its tokens in postfix order, and zero bytes up to
-- the next multiple of four.
use Rattle.std.specs.Prelude.{ℕ, Bool, ◌&&◌, nat_le, is_some, List, [], ◌∷◌, ◌++◌, length, replicate}
use Rattle.std.specs.Int.{w32, w64, cast_unsigned, to_le_bytes}
use Rattle.std.specs.List.{flat_map}
use Rattle.sd_sid.specs.SidBytes.{bytes_of_sid}
use Rattle.sd_data.specs.Writing.{padding_len, text_bytes}
use Rattle.sd_condition.specs.Stack.{outcome}
use Rattle.sd_condition.specs.Table.{base_byte, operator_byte, scope_byte, sign_byte, width_byte}
use Rattle.sd_condition.specs.declared.integer.Integer.{Integer}
use Rattle.sd_condition.specs.declared.token.Token.{Token}
use Rattle.sd_condition.specs.declared.token.Token.TheVariants as tokens
use Rattle.sd_condition.specs.declared.value.Value.{Value}
use Rattle.sd_condition.specs.declared.value.Value.TheVariants as values

-- a token with a content: its byte, the content's length in four bytes, the content
abbrev pub with_content : ℕ → List ℕ → List ℕ
with_content byte content = byte ∷ (to_le_bytes w32 (length content) ++ content)

-- an integer (2.4.4.17.5): eight bytes of value, the sign, the base
abbrev pub integer_bytes : Integer → List ℕ
integer_bytes i = width_byte i.width
    ∷ (to_le_bytes w64 (cast_unsigned w64 i.value) ++ sign_byte i.sign ∷ base_byte i.base ∷ [])

-- a value (2.4.4.17.5)
unfoldable pub value_bytes : Value → List ℕ
value_bytes (values.Integer integer) = integer_bytes integer
value_bytes (values.Text text) = with_content 0x10 (text_bytes text)
value_bytes (values.Octets octets) = with_content 0x18 octets
value_bytes (values.Sid sid) = with_content 0x51 (bytes_of_sid sid)

-- a token (2.4.4.17.5 to 2.4.4.17.8)
unfoldable pub token_bytes : Token → List ℕ
token_bytes (tokens.Value value) = value_bytes value
token_bytes (tokens.List list) = with_content 0x50 (flat_map value_bytes list)
token_bytes (tokens.Attribute attribute) = with_content (scope_byte attribute.scope) (text_bytes attribute.name)
token_bytes (tokens.Operator operator) = operator_byte operator ∷ []

-- `artx`, the tokens, the padding
unfoldable pub condition_data : List Token → List ℕ
condition_data ts = 0x61 ∷ 0x72 ∷ 0x74 ∷ 0x78
    ∷ (flat_map token_bytes ts ++ replicate (padding_len (length (flat_map token_bytes ts))) 0)

-- tokens that leave one condition, and whose data has at most 65,535 bytes: the size of an entry has 16 bits (2.4.4.1)
unfoldable pub is_condition : List Token → Bool
is_condition ts = is_some (outcome ts) && nat_le (length (condition_data ts)) 65535
