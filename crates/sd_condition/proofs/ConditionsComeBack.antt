-- What is written is parsed again, whatever follows it.
use Rattle.sd_condition.proofs.Cited.{AllByRecursion, AreTokens, AreUnits, Attribute, ConditionsComeBack, Device, FitsSigned, Int16, Int32, Int64, Int8, Integer, IsSid, IsToken, IsValue, List, Local, None, Ok, Operator, Resource, Scope, SidValue, Some, Token, User, Value, Width, [], after, ap, append-nil, append_assoc, arith, attribute_read, bytes_of_sid, cond, eq-eqb, false, flat_map, from_le_bytes-to_le_bytes_4, get_or, i64_at, integer_bytes, is_condition, is_padding, le-ltb, length, length-append, length-replicate, list_read, nat_le, nat_lt, ne_eqb, operator_byte, padded_read, padding_len, refl, replicate, scope_byte, sid_read, sid_reading, sids_come_back, slice_range, suc, sym, take, take_at, text_bytes, true, u32_at, w64, whole_sid, width_byte, with_content, zero, ℕ, ◌%◌, ◌++◌, ◌+◌, ◌-◌, ◌<◌, ◌==◌, ◌^◌, ◌∙◌, ◌∷◌, ◌≡◌, ◌≤◌}
use Rattle.sd_condition.proofs.Lengths.{length_of_data, tokens_fit}
use Rattle.sd_data.proofs.TextsComeBack.{after_part, signed_again, text_again}
use Rattle.sd_condition.proofs.Tables.{base_again, operator_again, scope_again, sign_again, width_again}
use Rattle.sd_condition.specs.Reading.{condition_read, content_len, integer_read, literal_read, token_read, tokens_read, value_read, values_read}
use Rattle.sd_condition.specs.Writing.{condition_data, token_bytes, value_bytes}
use Rattle.sd_condition.specs.declared.operator.Operator.TheVariants as operators
use Rattle.sd_condition.specs.declared.token.Token.TheVariants as tokens
use Rattle.sd_condition.specs.declared.value.Value.TheVariants as values

-- ---- contents

sid_again : (s : SidValue) → IsSid s → sid_read (bytes_of_sid s) ≡ Some s
sid_again s sound =
    let read : sid_reading (bytes_of_sid s) ≡ Ok (s, length (bytes_of_sid s)) = ap sid_reading (sym (append-nil (bytes_of_sid s))) ∙ sids_come_back s [] sound in
    let same : (length (bytes_of_sid s) == length (bytes_of_sid s)) ≡ true = eq-eqb _ _ refl in
    ap (whole_sid (length (bytes_of_sid s))) read ∙ ap (λ is. cond is (Some s) None) same

-- ---- a token with a content

record HasContent (bytes : List ℕ) (byte : ℕ) (content : List ℕ) : Type 0 where
  first : get_or bytes 0 0 ≡ byte
  len : content_len bytes ≡ Some (length content)
  is : slice_range bytes 5 (5 + length content) ≡ content

content_again : (byte : ℕ) (content rest : List ℕ) → length content < 2 ^ 32 → HasContent (with_content byte content ++ rest) byte content
unfolding content_len
content_again byte content rest small =
    let bytes = with_content byte content ++ rest in
    let long : nat_lt (length bytes) 5 ≡ false = le-ltb _ _ (omega arith) in
    let number : u32_at bytes 1 ≡ length content = from_le_bytes-to_le_bytes_4 (length content) small in
    let within : nat_lt (length bytes) (5 + length content) ≡ false = le-ltb _ _ (omega (arith, length-append content rest)) in
    record {
      first = refl;
      len = rw (long, number, within) refl;
      is = ap (λ n. take n (content ++ rest)) (omega arith) ∙ take_at content rest (length content) refl;
    }

-- ---- values

integer_again : (i : Integer) (rest : List ℕ) → FitsSigned w64 i.value → integer_read (integer_bytes i ++ rest) ≡ Some i
unfolding integer_read
integer_again i rest fits =
    let bytes = integer_bytes i ++ rest in
    let long : nat_lt (length bytes) 11 ≡ false = le-ltb _ _ (omega arith) in
    let value : i64_at bytes 1 ≡ i.value = signed_again i.value fits in
    rw (long, width_again i.width, sign_again i.sign, base_again i.base, value) refl

-- the first byte of a value, which is below those of other tokens
record IsLow (byte : ℕ) : Type 0 where
  attributes : nat_le 0xf8 byte ≡ false
  operators : nat_le 0x80 byte ≡ false
  list : (byte == 0x50) ≡ false
  padding : (byte == 0) ≡ false

width_low : (w : Width) → IsLow (width_byte w)
width_low Int8 = record { attributes = refl; operators = refl; list = refl; padding = refl }
width_low Int16 = record { attributes = refl; operators = refl; list = refl; padding = refl }
width_low Int32 = record { attributes = refl; operators = refl; list = refl; padding = refl }
width_low Int64 = record { attributes = refl; operators = refl; list = refl; padding = refl }

value_low : (v : Value) (rest : List ℕ) → IsLow (get_or (value_bytes v ++ rest) 0 0)
unfolding value_bytes
value_low (values.Integer i) rest = width_low i.width
value_low (values.Text text) rest = record { attributes = refl; operators = refl; list = refl; padding = refl }
value_low (values.Octets octets) rest = record { attributes = refl; operators = refl; list = refl; padding = refl }
value_low (values.Sid sid) rest = record { attributes = refl; operators = refl; list = refl; padding = refl }

width_is_integer : (w : Width) → nat_le (width_byte w) 0x04 ≡ true
width_is_integer Int8 = refl
width_is_integer Int16 = refl
width_is_integer Int32 = refl
width_is_integer Int64 = refl

literal_again : (bytes : List ℕ) (byte : ℕ) (content : List ℕ) (v : Value) → HasContent bytes byte content → nat_le byte 0x04 ≡ false
    → literal_read byte content ≡ Some v → value_read bytes ≡ Some (v, 5 + length content)
unfolding value_read
literal_again bytes byte content v has high read = rw (has.first, high, has.len, has.is, read) refl

integer_first : (bytes : List ℕ) (i : Integer) → nat_le (get_or bytes 0 0) 0x04 ≡ true → integer_read bytes ≡ Some i → value_read bytes ≡ Some (values.Integer i, 11)
unfolding value_read
integer_first bytes i low read = rw (low, read) refl

text_literal : (text : List ℕ) → AreUnits text → literal_read 0x10 (text_bytes text) ≡ Some (values.Text text)
unfolding literal_read
text_literal text are = rw (text_again text are) refl

octets_literal : (octets : List ℕ) → literal_read 0x18 octets ≡ Some (values.Octets octets)
unfolding literal_read
octets_literal octets = refl

sid_literal : (s : SidValue) → IsSid s → literal_read 0x51 (bytes_of_sid s) ≡ Some (values.Sid s)
unfolding literal_read
sid_literal s sound = rw (sid_again s sound) refl

pub value_again : (v : Value) (rest : List ℕ) → IsValue v → length (value_bytes v) ≤ 65535 → value_read (value_bytes v ++ rest) ≡ Some (v, length (value_bytes v))
unfolding value_bytes
value_again (values.Integer i) rest is small = integer_first (integer_bytes i ++ rest) i (width_is_integer i.width) (integer_again i rest is)
value_again (values.Text text) rest is small =
    literal_again (with_content 0x10 (text_bytes text) ++ rest) 0x10 (text_bytes text) (values.Text text) (content_again 0x10 (text_bytes text) rest (omega arith)) refl (text_literal text is)
    ∙ ap (λ n. Some (values.Text text, n)) (omega arith)
value_again (values.Octets octets) rest is small =
    literal_again (with_content 0x18 octets ++ rest) 0x18 octets (values.Octets octets) (content_again 0x18 octets rest (omega arith)) refl (octets_literal octets)
    ∙ ap (λ n. Some (values.Octets octets, n)) (omega arith)
value_again (values.Sid sid) rest is small =
    literal_again (with_content 0x51 (bytes_of_sid sid) ++ rest) 0x51 (bytes_of_sid sid) (values.Sid sid) (content_again 0x51 (bytes_of_sid sid) rest (omega arith)) refl (sid_literal sid is)
    ∙ ap (λ n. Some (values.Sid sid, n)) (omega arith)

-- ---- lists

value_next : (most : ℕ) (bytes : List ℕ) (v : Value) (n : ℕ) (others : List Value) → (length bytes == 0) ≡ false → value_read bytes ≡ Some (v, n)
    → values_read most (after n bytes) ≡ Some others → values_read (suc most) bytes ≡ Some (v ∷ others)
unfolding values_read
value_next most bytes v n others more first rest = rw (more, first, rest) refl

no_values : (most : ℕ) → values_read most [] ≡ Some []
unfolding values_read
no_values zero = refl
no_values (suc most) = refl

some_bytes : (v : Value) → 0 < length (value_bytes v)
unfolding value_bytes
some_bytes (values.Integer i) = omega arith
some_bytes (values.Text text) = omega arith
some_bytes (values.Octets octets) = omega arith
some_bytes (values.Sid sid) = omega arith

values_again : (most : ℕ) (vs : List Value) → AllByRecursion IsValue vs → length (flat_map value_bytes vs) ≤ most → length (flat_map value_bytes vs) ≤ 65535
    → values_read most (flat_map value_bytes vs) ≡ Some vs
values_again most [] are enough small = no_values most
values_again zero (v ∷ vs) are enough small =
    absurd (omega (arith, some_bytes v, length-append (value_bytes v) (flat_map value_bytes vs)))
values_again (suc most) (v ∷ vs) are enough small =
    let rest = flat_map value_bytes vs in
    let bytes = value_bytes v ++ rest in
    let sized = length-append (value_bytes v) rest in
    let some = some_bytes v in
    let more : (length bytes == 0) ≡ false = ne_eqb _ _ (λ (none : length bytes ≡ 0). omega arith) in
    value_next most bytes v (length (value_bytes v)) vs more (value_again v rest are.0 (omega arith))
    (ap (values_read most) (after_part (value_bytes v) rest) ∙ values_again most vs are.1 (omega arith) (omega arith))

-- ---- tokens

attribute_again : (a : Attribute) → AreUnits a.name → attribute_read (scope_byte a.scope) (text_bytes a.name) ≡ Some a
attribute_again a are = rw (scope_again a.scope, text_again a.name are) refl

scope_high : (s : Scope) → nat_le 0xf8 (scope_byte s) ≡ true
scope_high Local = refl
scope_high User = refl
scope_high Resource = refl
scope_high Device = refl

attribute_token : (bytes : List ℕ) (a : Attribute) → HasContent bytes (scope_byte a.scope) (text_bytes a.name) → AreUnits a.name
    → token_read bytes ≡ Some (tokens.Attribute a, 5 + length (text_bytes a.name))
unfolding token_read
attribute_token bytes a has are = rw (has.first, scope_high a.scope, has.len, has.is, attribute_again a are) refl

list_token : (bytes : List ℕ) (vs : List Value) → HasContent bytes 0x50 (flat_map value_bytes vs) → list_read (flat_map value_bytes vs) ≡ Some vs
    → token_read bytes ≡ Some (tokens.List vs, 5 + length (flat_map value_bytes vs))
unfolding token_read
list_token bytes vs has read = rw (has.first, has.len, has.is, read) refl

value_token : (bytes : List ℕ) (v : Value) (n : ℕ) → IsLow (get_or bytes 0 0) → value_read bytes ≡ Some (v, n) → token_read bytes ≡ Some (tokens.Value v, n)
unfolding token_read
value_token bytes v n low read = rw (low.attributes, low.operators, low.list, read) refl

-- the byte of an operator
record IsOperator (byte : ℕ) : Type 0 where
  attributes : nat_le 0xf8 byte ≡ false
  operators : nat_le 0x80 byte ≡ true
  padding : (byte == 0) ≡ false

operator_is : (o : Operator) → IsOperator (operator_byte o)
operator_is operators.Equal = record { attributes = refl; operators = refl; padding = refl }
operator_is operators.NotEqual = record { attributes = refl; operators = refl; padding = refl }
operator_is operators.Less = record { attributes = refl; operators = refl; padding = refl }
operator_is operators.LessOrEqual = record { attributes = refl; operators = refl; padding = refl }
operator_is operators.Greater = record { attributes = refl; operators = refl; padding = refl }
operator_is operators.GreaterOrEqual = record { attributes = refl; operators = refl; padding = refl }
operator_is operators.Contains = record { attributes = refl; operators = refl; padding = refl }
operator_is operators.Exists = record { attributes = refl; operators = refl; padding = refl }
operator_is operators.AnyOf = record { attributes = refl; operators = refl; padding = refl }
operator_is operators.MemberOf = record { attributes = refl; operators = refl; padding = refl }
operator_is operators.DeviceMemberOf = record { attributes = refl; operators = refl; padding = refl }
operator_is operators.MemberOfAny = record { attributes = refl; operators = refl; padding = refl }
operator_is operators.DeviceMemberOfAny = record { attributes = refl; operators = refl; padding = refl }
operator_is operators.NotExists = record { attributes = refl; operators = refl; padding = refl }
operator_is operators.NotContains = record { attributes = refl; operators = refl; padding = refl }
operator_is operators.NotAnyOf = record { attributes = refl; operators = refl; padding = refl }
operator_is operators.NotMemberOf = record { attributes = refl; operators = refl; padding = refl }
operator_is operators.NotDeviceMemberOf = record { attributes = refl; operators = refl; padding = refl }
operator_is operators.NotMemberOfAny = record { attributes = refl; operators = refl; padding = refl }
operator_is operators.NotDeviceMemberOfAny = record { attributes = refl; operators = refl; padding = refl }
operator_is operators.And = record { attributes = refl; operators = refl; padding = refl }
operator_is operators.Or = record { attributes = refl; operators = refl; padding = refl }
operator_is operators.Not = record { attributes = refl; operators = refl; padding = refl }

scope_first : (s : Scope) → (scope_byte s == 0) ≡ false
scope_first Local = refl
scope_first User = refl
scope_first Resource = refl
scope_first Device = refl

operator_token : (bytes : List ℕ) (o : Operator) → get_or bytes 0 0 ≡ operator_byte o → IsOperator (operator_byte o) → token_read bytes ≡ Some (tokens.Operator o, 1)
unfolding token_read
operator_token bytes o first is = rw (first, is.attributes, is.operators, operator_again o) refl

pub token_again : (t : Token) (rest : List ℕ) → IsToken t → length (token_bytes t) ≤ 65535 → token_read (token_bytes t ++ rest) ≡ Some (t, length (token_bytes t))
unfolding token_bytes
token_again (tokens.Value v) rest is small = value_token (value_bytes v ++ rest) v (length (value_bytes v)) (value_low v rest) (value_again v rest is small)
token_again (tokens.List vs) rest is small =
    let content = flat_map value_bytes vs in
    list_token (with_content 0x50 content ++ rest) vs (content_again 0x50 content rest (omega arith)) (values_again (length content) vs is (omega arith) (omega arith))
    ∙ ap (λ n. Some (tokens.List vs, n)) (omega arith)
token_again (tokens.Attribute a) rest is small =
    let content = text_bytes a.name in
    attribute_token (with_content (scope_byte a.scope) content ++ rest) a (content_again (scope_byte a.scope) content rest (omega arith)) is
    ∙ ap (λ n. Some (tokens.Attribute a, n)) (omega arith)
token_again (tokens.Operator o) rest is small = operator_token (operator_byte o ∷ [] ++ rest) o refl (operator_is o)

token_first : (t : Token) (rest : List ℕ) → (get_or (token_bytes t ++ rest) 0 0 == 0) ≡ false
unfolding token_bytes
token_first (tokens.Value v) rest = (value_low v rest).padding
token_first (tokens.List vs) rest = refl
token_first (tokens.Attribute a) rest = scope_first a.scope
token_first (tokens.Operator o) rest = (operator_is o).padding

some_token_bytes : (t : Token) → 0 < length (token_bytes t)
unfolding token_bytes
some_token_bytes (tokens.Value v) = some_bytes v
some_token_bytes (tokens.List vs) = omega arith
some_token_bytes (tokens.Attribute a) = omega arith
some_token_bytes (tokens.Operator o) = omega arith

token_next : (most : ℕ) (bytes : List ℕ) (t : Token) (n : ℕ) (others : List Token) → (get_or bytes 0 0 == 0) ≡ false → token_read bytes ≡ Some (t, n)
    → tokens_read most (after n bytes) ≡ Some others → tokens_read (suc most) bytes ≡ Some (t ∷ others)
unfolding tokens_read
token_next most bytes t n others more first rest = rw (more, first, rest) refl

padding_ends : (k : ℕ) → k < 4 → (is_padding (replicate k 0) ≡ true) × ((get_or (replicate k 0) 0 0 == 0) ≡ true)
padding_ends zero few = (refl, refl)
padding_ends (suc zero) few = (refl, refl)
padding_ends (suc (suc zero)) few = (refl, refl)
padding_ends (suc (suc (suc zero))) few = (refl, refl)
padding_ends (suc (suc (suc (suc k)))) few = absurd (omega arith)

no_tokens : (most k : ℕ) → k < 4 → tokens_read most (replicate k 0) ≡ Some []
unfolding tokens_read
no_tokens zero k few = rw (padding_ends k few).0 refl
no_tokens (suc most) k few = rw ((padding_ends k few).1, (padding_ends k few).0) refl

tokens_again : (most k : ℕ) (ts : List Token) → k < 4 → AreTokens ts → length (flat_map token_bytes ts) + k ≤ most → length (flat_map token_bytes ts) ≤ 65535
    → tokens_read most (flat_map token_bytes ts ++ replicate k 0) ≡ Some ts
tokens_again most k [] few are enough small = no_tokens most k few
tokens_again zero k (t ∷ ts) few are enough small =
    absurd (omega (arith, some_token_bytes t, length-append (token_bytes t) (flat_map token_bytes ts)))
tokens_again (suc most) k (t ∷ ts) few are enough small =
    let rest = flat_map token_bytes ts ++ replicate k 0 in
    let sized = length-append (token_bytes t) (flat_map token_bytes ts) in
    let some = some_token_bytes t in
    let behind : tokens_read most (after (length (token_bytes t)) (token_bytes t ++ rest)) ≡ Some ts =
    ap (tokens_read most) (after_part (token_bytes t) rest) ∙ tokens_again most k ts few are.1 (omega arith) (omega arith) in
    ap (tokens_read (suc most)) (append_assoc (token_bytes t) (flat_map token_bytes ts) (replicate k 0))
    ∙ token_next most (token_bytes t ++ rest) t (length (token_bytes t)) ts (token_first t rest) (token_again t rest are.0 (omega arith)) behind

-- ---- conditions

data_read_as : (bytes : List ℕ) (ts : List Token) → 4 ≤ length bytes → length bytes % 4 ≡ 0 → u32_at bytes 0 ≡ 0x78747261 → padded_read (after 4 bytes) ≡ Some ts
    → is_condition ts ≡ true → condition_read bytes ≡ Some ts
unfolding condition_read
data_read_as bytes ts long aligned magic read is =
    let not_short : nat_lt (length bytes) 4 ≡ false = le-ltb _ _ long in
    let whole : (length bytes % 4 == 0) ≡ true = eq-eqb _ _ aligned in
    rw (not_short, whole, magic, read, is) refl

-- the padding fills up a multiple of four
fills_up : (n : ℕ) → ((4 + n + (4 - n % 4) % 4) % 4 ≡ 0) × ((4 - n % 4) % 4 < 4)
fills_up n = (omega arith, omega arith)

pub conditions_come_back : ConditionsComeBack
unfolding condition_data
conditions_come_back ts are is =
    let spelled = flat_map token_bytes ts in
    let zeros = padding_len (length spelled) in
    let fits = tokens_fit ts is in
    let sized = length_of_data ts in
    let padded = length-append spelled (replicate zeros 0) in
    let zeros_are = length-replicate {A = ℕ} zeros 0 in
    let few = (fills_up (length spelled)).1 in
    let behind : after 4 (condition_data ts) ≡ spelled ++ replicate zeros 0 = after_part (0x61 ∷ 0x72 ∷ 0x74 ∷ 0x78 ∷ []) (spelled ++ replicate zeros 0) in
    data_read_as (condition_data ts) ts (omega arith) (ap (λ n. n % 4) sized ∙ (fills_up (length spelled)).0) refl
    (ap padded_read behind ∙ tokens_again (length (spelled ++ replicate zeros 0)) zeros ts few are (omega arith) fits.1) is
