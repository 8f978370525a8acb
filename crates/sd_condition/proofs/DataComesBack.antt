-- What is parsed is written again: the token at the front of the bytes is those bytes.
use Rattle.sd_condition.proofs.Cited.{Attribute, Base, DataComesBack, Err, Integer, List, None, Ok, Operator, Option, Result, Scope, SidError, SidValue, Sign, Some, Token, Value, Width, [], add-zero, after, and_parts, ap, append_assoc, arith, attribute_read, base_byte, base_read, bases, bytes_of_sid, cast_signed, cast_unsigned, cells, cells_fit, cond, condition_of, drop, drop-drop, eqb-true, flat_map, from_le_bytes, get_or, i64_at, inl, inr, integer_bytes, is_condition, is_padding, le_bytes_2, le_bytes_4, le_bytes_8, leb-true, length, length-append, length-drop, length-replicate, length-take-le, list_all, list_read, ltb-false, ltb-true, map, nat_le, nat_lt, not, not-false, of_z-to_z, operator_byte, operator_read, operators, padded_read, padding_len, range_with_len, refl, replicate, scope_byte, scope_read, scopes, sid_read, sid_reading, sids_stand, sign_byte, sign_read, signs, slice_range, subst, suc, sym, take, take-add, take-append-drop, take_all, text_bytes, to_le_bytes, true, u16_at, u32_at, w16, w32, w64, whole_sid, width_byte, width_read, widths, with_content, zero, ℕ, ◌%◌, ◌*◌, ◌++◌, ◌+◌, ◌-◌, ◌/◌, ◌<◌, ◌==◌, ◌>>=◌, ◌^◌, ◌∙◌, ◌∷◌, ◌≡◌, ◌≤◌}
use Rattle.sd_data.proofs.Found.{bound, chosen, held, passed, some_is}
use Rattle.sd_condition.proofs.Tables.{byte_of_read}
use Rattle.sd_condition.specs.Reading.{condition_read, content_len, tokens_read, token_read, values_read, integer_read, literal_read, value_read}
use Rattle.sd_data.specs.Reading.{text_read}
use Rattle.sd_condition.specs.Writing.{condition_data, token_bytes, value_bytes}
use Rattle.sd_condition.specs.declared.token.Token.TheVariants as tokens
use Rattle.sd_condition.specs.declared.value.Value.TheVariants as values

abbrev pub IsBytes : List ℕ → Type 0
IsBytes bytes = (i : ℕ) → get_or bytes i 0 < 256

-- ---- contents

unit_stands : (bytes : List ℕ) (o : ℕ) → o + 2 ≤ length bytes → IsBytes bytes → to_le_bytes w16 (u16_at bytes o) ≡ take 2 (drop o bytes)
unit_stands bytes o h fits =
    let part : take 2 (drop o bytes) ≡ get_or bytes o 0 ∷ get_or bytes (o + 1) 0 ∷ [] = cells bytes o 2 h ∙ rw add-zero refl in
    le_bytes_2 (take 2 (drop o bytes)) (u16_at bytes o) (length-take-le 2 (drop o bytes) (omega (arith, length-drop o bytes))) (cells_fit bytes o 2 fits) (ap (from_le_bytes w16) (sym part))

units_stand : (bytes : List ℕ) (a n : ℕ) → 2 * (a + n) ≤ length bytes → IsBytes bytes
    → text_bytes (map (λ k. u16_at bytes (2 * k)) (range_with_len a n)) ≡ take (2 * n) (drop (2 * a) bytes)
units_stand bytes a zero h fits = refl
units_stand bytes a (suc n) h fits =
    let front : to_le_bytes w16 (u16_at bytes (2 * a)) ≡ take 2 (drop (2 * a) bytes) = unit_stands bytes (2 * a) (omega arith) fits in
    let rest = units_stand bytes (a + 1) n (omega arith) fits in
    let next : drop 2 (drop (2 * a) bytes) ≡ drop (2 * (a + 1)) bytes = drop-drop 2 (2 * a) bytes ∙ ap (λ k. drop k bytes) (omega arith) in
    let size : 2 * suc n ≡ 2 + 2 * n = omega arith in
    let split : take (2 * suc n) (drop (2 * a) bytes) ≡ take 2 (drop (2 * a) bytes) ++ take (2 * n) (drop (2 * (a + 1)) bytes) =
    ap (λ k. take k (drop (2 * a) bytes)) size ∙ take-add 2 (2 * n) (drop (2 * a) bytes) ∙ ap (λ (d : List ℕ). take 2 (drop (2 * a) bytes) ++ take (2 * n) d) next in
    ap (λ (x : List ℕ). x ++ text_bytes (map (λ k. u16_at bytes (2 * k)) (range_with_len (a + 1) n))) front
    ∙ ap (λ (x : List ℕ). take 2 (drop (2 * a) bytes) ++ x) rest
    ∙ sym split

pub text_stands : (bytes units : List ℕ) → IsBytes bytes → text_read bytes ≡ Some units → text_bytes units ≡ bytes
unfolding text_read
text_stands bytes units fits e =
    let read : List ℕ = map (λ k. u16_at bytes (2 * k)) (range_with_len 0 (length bytes / 2)) in
    let found = held (length bytes % 2 == 0) (Some read) units e in
    let even : length bytes % 2 ≡ 0 = eqb-true _ _ found.0 in
    ap text_bytes (sym (some_is read units found.1))
    ∙ units_stand bytes 0 (length bytes / 2) (omega arith) fits
    ∙ take_all (2 * (length bytes / 2)) bytes (omega arith)

pub sid_found : (n : ℕ) (r : Result (SidValue × ℕ) SidError) (s : SidValue) → whole_sid n r ≡ Some s → r ≡ Ok (s, n)
sid_found n (Ok x) s e =
    let found = held (x.1 == n) (Some x.0) s e in
    let whole : x.1 ≡ n = eqb-true _ _ found.0 in
    let is : x.0 ≡ s = some_is x.0 s found.1 in
    ap (λ m. Ok (x.0, m)) whole ∙ ap (λ v. Ok (v, n)) is
sid_found n (Err fault) s e = absurd cc

pub sid_stands : (bytes : List ℕ) (s : SidValue) → IsBytes bytes → sid_read bytes ≡ Some s → bytes_of_sid s ≡ bytes
sid_stands bytes s fits e =
    sym (sids_stand bytes s (length bytes) fits (sid_found (length bytes) (sid_reading bytes) s e)) ∙ take_all (length bytes) bytes (omega arith)

-- ---- a token with a content

length_stands : (bytes : List ℕ) → IsBytes bytes → 5 ≤ length bytes → take 5 bytes ≡ get_or bytes 0 0 ∷ to_le_bytes w32 (u32_at bytes 1)
length_stands bytes fits long =
    let four : take 4 (drop 1 bytes) ≡ get_or bytes 1 0 ∷ get_or bytes 2 0 ∷ get_or bytes 3 0 ∷ get_or bytes 4 0 ∷ [] = cells bytes 1 4 long in
    let number : to_le_bytes w32 (u32_at bytes 1) ≡ take 4 (drop 1 bytes) =
    le_bytes_4 (take 4 (drop 1 bytes)) (u32_at bytes 1) (length-take-le 4 (drop 1 bytes) (omega (arith, length-drop 1 bytes))) (cells_fit bytes 1 4 fits) (ap (from_le_bytes w32) (sym four)) in
    cells bytes 0 5 long ∙ ap (λ (l : List ℕ). get_or bytes 0 0 ∷ l) (sym (number ∙ four))

-- what is parsed of a content's length: the content is there
pub content_stands : (bytes : List ℕ) (n : ℕ) → IsBytes bytes → content_len bytes ≡ Some n
    → (take (5 + n) bytes ≡ with_content (get_or bytes 0 0) (slice_range bytes 5 (5 + n))) × (5 + n ≤ length bytes)
unfolding content_len
content_stands bytes n fits e =
    let header = passed (nat_lt (length bytes) 5) _ n e in
    let within = passed (nat_lt (length bytes) (5 + u32_at bytes 1)) (Some (u32_at bytes 1)) n header.1 in
    let is : u32_at bytes 1 ≡ n = some_is (u32_at bytes 1) n within.1 in
    let long : 5 ≤ length bytes = ltb-false _ _ header.0 in
    let room : 5 + n ≤ length bytes = rw (← is) (ltb-false _ _ within.0) in
    let range : slice_range bytes 5 (5 + n) ≡ take n (drop 5 bytes) = ap (λ k. take k (drop 5 bytes)) (omega arith) in
    let sized : length (slice_range bytes 5 (5 + n)) ≡ n = ap length range ∙ length-take-le n (drop 5 bytes) (omega (arith, length-drop 5 bytes)) in (
      take-add 5 n bytes
          ∙ ap (λ (x : List ℕ). x ++ take n (drop 5 bytes)) (length_stands bytes fits long)
          ∙ ap (λ k. get_or bytes 0 0 ∷ (to_le_bytes w32 k ++ take n (drop 5 bytes))) (is ∙ sym sized)
          ∙ ap (λ (x : List ℕ). get_or bytes 0 0 ∷ (to_le_bytes w32 (length (slice_range bytes 5 (5 + n))) ++ x)) (sym range),
      room,
    )

-- ---- integers

integer_stands : (bytes : List ℕ) (i : Integer) → IsBytes bytes → integer_read bytes ≡ Some i → (take 11 bytes ≡ integer_bytes i) × (11 ≤ length bytes)
unfolding integer_read
integer_stands bytes i fits e =
    let width_at = get_or bytes 0 0 in
    let sign_at = get_or bytes 9 0 in
    let base_at = get_or bytes 10 0 in
    let made : Width → Sign → Base → Integer = λ width sign base. record { width = width; value = i64_at bytes 1; sign = sign; base = base } in
    let with_sign : Width → Sign → Option Integer = λ width sign. base_read base_at >>= λ base. Some (made width sign base) in
    let with_width : Width → Option Integer = λ width. sign_read sign_at >>= with_sign width in
    let long = passed (nat_lt (length bytes) 11) (width_read width_at >>= with_width) i e in
    let width = bound (width_read width_at) with_width i long.1 in
    let sign = bound (sign_read sign_at) (with_sign width.0) i width.2 in
    let base = bound (base_read base_at) (λ base. Some (made width.0 sign.0 base)) i sign.2 in
    let is : made width.0 sign.0 base.0 ≡ i = some_is (made width.0 sign.0 base.0) i base.2 in
    let room : 11 ≤ length bytes = ltb-false _ _ long.0 in
    let number = from_le_bytes w64 (get_or bytes 1 0 ∷ get_or bytes 2 0 ∷ get_or bytes 3 0 ∷ get_or bytes 4 0 ∷ get_or bytes 5 0 ∷ get_or bytes 6 0 ∷ get_or bytes 7 0 ∷ get_or bytes 8 0 ∷ []) in
    let eight : take 8 (drop 1 bytes) ≡ get_or bytes 1 0 ∷ get_or bytes 2 0 ∷ get_or bytes 3 0 ∷ get_or bytes 4 0 ∷ get_or bytes 5 0 ∷ get_or bytes 6 0 ∷ get_or bytes 7 0 ∷ get_or bytes 8 0 ∷ [] = cells bytes 1 8 (omega arith) in
    let written : to_le_bytes w64 number ≡ take 8 (drop 1 bytes) =
    le_bytes_8 (take 8 (drop 1 bytes)) number (length-take-le 8 (drop 1 bytes) (omega (arith, length-drop 1 bytes))) (cells_fit bytes 1 8 fits) (ap (from_le_bytes w64) (sym eight)) in
    let small : number < 2 ^ 64 = omega (arith, fits 1, fits 2, fits 3, fits 4, fits 5, fits 6, fits 7, fits 8) in
    let again : to_le_bytes w64 (cast_unsigned w64 (cast_signed w64 number)) ≡ to_le_bytes w64 number = ap (to_le_bytes w64) (of_z-to_z w64 number small) in (
      cells bytes 0 11 room
          ∙ ap (λ (l : List ℕ). width_at ∷ (l ++ sign_at ∷ base_at ∷ [])) (sym eight ∙ sym written ∙ sym again)
          ∙ ap (λ b. b ∷ (to_le_bytes w64 (cast_unsigned w64 (cast_signed w64 number)) ++ sign_at ∷ base_at ∷ [])) (sym (byte_of_read width_byte widths width_at width.0 width.1))
          ∙ ap (λ b. width_byte width.0 ∷ (to_le_bytes w64 (cast_unsigned w64 (cast_signed w64 number)) ++ b ∷ base_at ∷ [])) (sym (byte_of_read sign_byte signs sign_at sign.0 sign.1))
          ∙ ap (λ b. width_byte width.0 ∷ (to_le_bytes w64 (cast_unsigned w64 (cast_signed w64 number)) ++ sign_byte sign.0 ∷ b ∷ [])) (sym (byte_of_read base_byte bases base_at base.0 base.1))
          ∙ ap integer_bytes is,
      room,
    )

-- ---- values

-- a value that is parsed of its byte and its content is those
literal_stands : (byte : ℕ) (content : List ℕ) (v : Value) → IsBytes content → literal_read byte content ≡ Some v → value_bytes v ≡ with_content byte content
unfolding literal_read value_bytes
literal_stands byte content v fits e =
    elim (chosen (byte == 0x10) _ _ v e) [
      | inl h ↦
          let text = bound (text_read content) (λ text. Some (values.Text text)) v h.1 in
          ap value_bytes (sym (some_is (values.Text text.0) v text.2))
          ∙ ap (with_content 0x10) (text_stands content text.0 fits text.1)
          ∙ ap (λ b. with_content b content) (sym (eqb-true byte 0x10 h.0))
      | inr h ↦ elim (chosen (byte == 0x18) _ _ v h.1) [
        | inl g ↦
            ap value_bytes (sym (some_is (values.Octets content) v g.1))
            ∙ ap (λ b. with_content b content) (sym (eqb-true byte 0x18 g.0))
        | inr g ↦
            let last = held (byte == 0x51) _ v g.1 in
            let sid = bound (sid_read content) (λ sid. Some (values.Sid sid)) v last.1 in
            ap value_bytes (sym (some_is (values.Sid sid.0) v sid.2))
            ∙ ap (with_content 0x51) (sid_stands content sid.0 fits sid.1)
            ∙ ap (λ b. with_content b content) (sym (eqb-true byte 0x51 last.0))
      ]
    ]

-- what is parsed at the front of the bytes is those bytes
abbrev Stands : {A : Type 0} → (A → List ℕ) → List ℕ → A × ℕ → Type 0
Stands spell bytes x = (take x.1 bytes ≡ spell x.0) × (x.1 ≤ length bytes)

value_stands : (bytes : List ℕ) (x : Value × ℕ) → IsBytes bytes → value_read bytes ≡ Some x → Stands value_bytes bytes x
unfolding value_read value_bytes
value_stands bytes x fits e =
    let byte = get_or bytes 0 0 in
    elim (chosen (nat_le byte 0x04) _ _ x e) [
      | inl h ↦
          let integer = bound (integer_read bytes) (λ integer. Some (values.Integer integer, 11)) x h.1 in
          subst (Stands value_bytes bytes) (some_is (values.Integer integer.0, 11) x integer.2) (integer_stands bytes integer.0 fits integer.1)
      | inr h ↦
          let content : ℕ → List ℕ = λ n. slice_range bytes 5 (5 + n) in
          let with_len : ℕ → Option (Value × ℕ) = λ n. literal_read byte (content n) >>= λ value. Some (value, 5 + n) in
          let len = bound (content_len bytes) with_len x h.1 in
          let value = bound (literal_read byte (content len.0)) (λ value. Some (value, 5 + len.0)) x len.2 in
          let stands = content_stands bytes len.0 fits len.1 in
          subst (Stands value_bytes bytes) (some_is (value.0, 5 + len.0) x value.2)
          (stands.0 ∙ sym (literal_stands byte (content len.0) value.0 (cells_fit bytes 5 (5 + len.0 - 5) fits) value.1), stands.1)
    ]

-- ---- lists

-- a part at the front of the bytes, and what follows
pub joined : (bytes part rest : List ℕ) (n : ℕ) → take n bytes ≡ part → rest ≡ after n bytes → part ++ rest ≡ bytes
joined bytes part rest n front behind =
    let all : after n bytes ≡ drop n bytes = take_all (length bytes - n) (drop n bytes) (omega (arith, length-drop n bytes)) in
    ap (λ (x : List ℕ). x ++ rest) (sym front) ∙ ap (λ (x : List ℕ). take n bytes ++ x) (behind ∙ all) ∙ take-append-drop n bytes

none_left : (bytes : List ℕ) → (length bytes == 0) ≡ true → [] ≡ bytes
none_left [] empty = refl
none_left (x ∷ xs) empty = absurd (omega (arith, eqb-true (length (x ∷ xs)) 0 empty))

pub after_fits : (bytes : List ℕ) (n : ℕ) → IsBytes bytes → IsBytes (after n bytes)
after_fits bytes n fits = cells_fit bytes n (length bytes - n) fits

values_stand : (most : ℕ) (bytes : List ℕ) (vs : List Value) → IsBytes bytes → values_read most bytes ≡ Some vs → flat_map value_bytes vs ≡ bytes
unfolding values_read
values_stand zero bytes vs fits e =
    let end = held (length bytes == 0) (Some []) vs e in
    ap (flat_map value_bytes) (sym (some_is [] vs end.1)) ∙ none_left bytes end.0
values_stand (suc most) bytes vs fits e =
    elim (chosen (length bytes == 0) (Some []) _ vs e) [
      | inl h ↦ ap (flat_map value_bytes) (sym (some_is [] vs h.1)) ∙ none_left bytes h.0
      | inr h ↦
          let with_first : Value × ℕ → Option (List Value) = λ first. values_read most (after first.1 bytes) >>= λ others. Some (first.0 ∷ others) in
          let first = bound (value_read bytes) with_first vs h.1 in
          let others = bound (values_read most (after first.0.1 bytes)) (λ others. Some (first.0.0 ∷ others)) vs first.2 in
          let rest = values_stand most (after first.0.1 bytes) others.0 (after_fits bytes first.0.1 fits) others.1 in
          ap (flat_map value_bytes) (sym (some_is (first.0.0 ∷ others.0) vs others.2))
          ∙ joined bytes (value_bytes first.0.0) (flat_map value_bytes others.0) first.0.1 (value_stands bytes first.0 fits first.1).0 rest
    ]

-- ---- tokens

attribute_stands : (byte : ℕ) (content : List ℕ) (a : Attribute) → IsBytes content → attribute_read byte content ≡ Some a
    → with_content (scope_byte a.scope) (text_bytes a.name) ≡ with_content byte content
attribute_stands byte content a fits e =
    let made : Scope → List ℕ → Attribute = λ scope name. record { scope = scope; name = name } in
    let with_scope : Scope → Option Attribute = λ scope. text_read content >>= λ name. Some (made scope name) in
    let scope = bound (scope_read byte) with_scope a e in
    let name = bound (text_read content) (λ name. Some (made scope.0 name)) a scope.2 in
    let is : made scope.0 name.0 ≡ a = some_is (made scope.0 name.0) a name.2 in
    ap (λ (x : Attribute). with_content (scope_byte x.scope) (text_bytes x.name)) (sym is)
    ∙ ap (λ b. with_content b (text_bytes name.0)) (byte_of_read scope_byte scopes byte scope.0 scope.1)
    ∙ ap (with_content byte) (text_stands content name.0 fits name.1)

byte_stands : (bytes : List ℕ) (b : ℕ) → get_or bytes 0 0 ≡ b → 0 < b → take 1 bytes ≡ b ∷ []
byte_stands [] b is some = absurd (omega arith)
byte_stands (x ∷ xs) b is some = ap (λ y. y ∷ []) is

operator_stands : (bytes : List ℕ) (o : Operator) → nat_le 0x80 (get_or bytes 0 0) ≡ true → operator_read (get_or bytes 0 0) ≡ Some o → take 1 bytes ≡ operator_byte o ∷ []
operator_stands bytes o high read =
    let is : operator_byte o ≡ get_or bytes 0 0 = byte_of_read operator_byte operators (get_or bytes 0 0) o read in
    byte_stands bytes (operator_byte o) (sym is) (omega (arith, leb-true 0x80 (get_or bytes 0 0) high))

pub token_stands : (bytes : List ℕ) (x : Token × ℕ) → IsBytes bytes → token_read bytes ≡ Some x → take x.1 bytes ≡ token_bytes x.0
unfolding token_read token_bytes
token_stands bytes x fits e =
    let byte = get_or bytes 0 0 in
    let content : ℕ → List ℕ = λ n. slice_range bytes 5 (5 + n) in
    let content_fits : (n : ℕ) → IsBytes (content n) = λ n. cells_fit bytes 5 (5 + n - 5) fits in
    let spelled : Token × ℕ → Type 0 = λ y. take y.1 bytes ≡ token_bytes y.0 in
    elim (chosen (nat_le 0xf8 byte) _ _ x e) [
      | inl h ↦
          let len = bound (content_len bytes) (λ n. attribute_read byte (content n) >>= λ attribute. Some (tokens.Attribute attribute, 5 + n)) x h.1 in
          let attribute = bound (attribute_read byte (content len.0)) (λ attribute. Some (tokens.Attribute attribute, 5 + len.0)) x len.2 in
          subst spelled (some_is (tokens.Attribute attribute.0, 5 + len.0) x attribute.2)
          ((content_stands bytes len.0 fits len.1).0 ∙ sym (attribute_stands byte (content len.0) attribute.0 (content_fits len.0) attribute.1))
      | inr h ↦ elim (chosen (nat_le 0x80 byte) _ _ x h.1) [
        | inl g ↦
            let operator = bound (operator_read byte) (λ operator. Some (tokens.Operator operator, 1)) x g.1 in
            subst spelled (some_is (tokens.Operator operator.0, 1) x operator.2) (operator_stands bytes operator.0 g.0 operator.1)
        | inr g ↦ elim (chosen (byte == 0x50) _ _ x g.1) [
          | inl l ↦
              let len = bound (content_len bytes) (λ n. list_read (content n) >>= λ list. Some (tokens.List list, 5 + n)) x l.1 in
              let list = bound (list_read (content len.0)) (λ list. Some (tokens.List list, 5 + len.0)) x len.2 in
              subst spelled (some_is (tokens.List list.0, 5 + len.0) x list.2)
              ((content_stands bytes len.0 fits len.1).0
              ∙ ap (λ b. with_content b (content len.0)) (eqb-true byte 0x50 l.0)
              ∙ ap (with_content 0x50) (sym (values_stand (length (content len.0)) (content len.0) list.0 (content_fits len.0) list.1)))
          | inr l ↦
              let value = bound (value_read bytes) (λ value. Some (tokens.Value value.0, value.1)) x l.1 in
              subst spelled (some_is (tokens.Value value.0.0, value.0.1) x value.2) (value_stands bytes value.0 fits value.1).0
        ]
      ]
    ]

-- ---- conditions

all_zeros : (bytes : List ℕ) → list_all (λ byte. byte == 0) bytes ≡ true → bytes ≡ replicate (length bytes) 0
all_zeros [] zeros = refl
all_zeros (x ∷ xs) zeros =
    let parts = and_parts (x == 0) (list_all (λ byte. byte == 0) xs) zeros in
    ap (λ (b : ℕ). b ∷ xs) (eqb-true x 0 parts.0) ∙ ap (λ (l : List ℕ). 0 ∷ l) (all_zeros xs parts.1)

-- fewer than four zeros
record IsPadded (spelled bytes : List ℕ) : Type 0 where
  zeros : ℕ
  few : zeros < 4
  is : spelled ++ replicate zeros 0 ≡ bytes

padding_is : (bytes : List ℕ) → is_padding bytes ≡ true → IsPadded [] bytes
padding_is bytes padding =
    let parts = and_parts (nat_lt (length bytes) 4) (list_all (λ byte. byte == 0) bytes) padding in
    record { zeros = length bytes; few = ltb-true _ _ parts.0; is = sym (all_zeros bytes parts.1) }

none_padded : (bytes : List ℕ) (ts : List Token) → cond (is_padding bytes) (Some []) None ≡ Some ts → IsPadded (flat_map token_bytes ts) bytes
none_padded bytes ts e =
    let end = held (is_padding bytes) (Some []) ts e in
    subst (λ (l : List Token). IsPadded (flat_map token_bytes l) bytes) (some_is [] ts end.1) (padding_is bytes end.0)

tokens_stand : (most : ℕ) (bytes : List ℕ) (ts : List Token) → IsBytes bytes → tokens_read most bytes ≡ Some ts → IsPadded (flat_map token_bytes ts) bytes
unfolding tokens_read
tokens_stand zero bytes ts fits e = none_padded bytes ts e
tokens_stand (suc most) bytes ts fits e =
    elim (chosen (get_or bytes 0 0 == 0) (cond (is_padding bytes) (Some []) None) _ ts e) [
      | inl h ↦ none_padded bytes ts h.1
      | inr h ↦
          let with_first : Token × ℕ → Option (List Token) = λ first. tokens_read most (after first.1 bytes) >>= λ others. Some (first.0 ∷ others) in
          let first = bound (token_read bytes) with_first ts h.1 in
          let others = bound (tokens_read most (after first.0.1 bytes)) (λ others. Some (first.0.0 ∷ others)) ts first.2 in
          let rest = tokens_stand most (after first.0.1 bytes) others.0 (after_fits bytes first.0.1 fits) others.1 in
          subst (λ (l : List Token). IsPadded (flat_map token_bytes l) bytes) (some_is (first.0.0 ∷ others.0) ts others.2)
          (record {
            zeros = rest.zeros;
            few = rest.few;
            is = append_assoc (token_bytes first.0.0) (flat_map token_bytes others.0) (replicate rest.zeros 0)
                ∙ joined bytes (token_bytes first.0.0) (flat_map token_bytes others.0 ++ replicate rest.zeros 0) first.0.1 (token_stands bytes first.0 fits first.1) rest.is;
          })
    ]

-- the padding up to a multiple of four is the only one
one_padding : (n k : ℕ) → k < 4 → (4 + (n + k)) % 4 ≡ 0 → k ≡ (4 - n % 4) % 4
one_padding n k few aligned = omega arith

magic_stands : (bytes : List ℕ) → IsBytes bytes → 4 ≤ length bytes → u32_at bytes 0 ≡ 0x78747261 → take 4 bytes ≡ 0x61 ∷ 0x72 ∷ 0x74 ∷ 0x78 ∷ []
magic_stands bytes fits long is =
    let four : take 4 (drop 0 bytes) ≡ get_or bytes 0 0 ∷ get_or bytes 1 0 ∷ get_or bytes 2 0 ∷ get_or bytes 3 0 ∷ [] = cells bytes 0 4 long in
    sym (le_bytes_4 (take 4 bytes) (u32_at bytes 0) (length-take-le 4 bytes long) (cells_fit bytes 0 4 fits) (ap (from_le_bytes w32) (sym four)))
    ∙ ap (to_le_bytes w32) is

pub condition_is : (ts us : List Token) → condition_of ts ≡ Some us → ts ≡ us
condition_is ts us e = some_is ts us (held (is_condition ts) (Some ts) us e).1

pub data_comes_back : DataComesBack
unfolding condition_read condition_data
data_comes_back bytes ts fits e =
    let long = passed (nat_lt (length bytes) 4) _ ts e in
    let aligned = passed (not (length bytes % 4 == 0)) _ ts long.1 in
    let magic = passed (not (u32_at bytes 0 == 0x78747261)) _ ts aligned.1 in
    let read = bound (padded_read (after 4 bytes)) condition_of ts magic.1 in
    let is : read.0 ≡ ts = condition_is read.0 ts read.2 in
    let stand = tokens_stand (length (after 4 bytes)) (after 4 bytes) read.0 (after_fits bytes 4 fits) read.1 in
    let spelled : List ℕ = flat_map token_bytes read.0 in
    let whole : 0x61 ∷ 0x72 ∷ 0x74 ∷ 0x78 ∷ (spelled ++ replicate stand.zeros 0) ≡ bytes =
    joined bytes (0x61 ∷ 0x72 ∷ 0x74 ∷ 0x78 ∷ []) (spelled ++ replicate stand.zeros 0) 4
    (magic_stands bytes fits (ltb-false _ _ long.0) (eqb-true _ _ (not-false _ magic.0))) stand.is in
    let sized : 4 + (length spelled + stand.zeros) ≡ length bytes = omega (arith, ap length whole, length-append spelled (replicate stand.zeros 0), length-replicate {A = ℕ} stand.zeros 0) in
    let zeros : stand.zeros ≡ padding_len (length spelled) = one_padding (length spelled) stand.zeros stand.few (ap (λ n. n % 4) sized ∙ eqb-true _ _ (not-false _ aligned.0)) in
    ap (λ (l : List Token). 0x61 ∷ 0x72 ∷ 0x74 ∷ 0x78 ∷ (flat_map token_bytes l ++ replicate (padding_len (length (flat_map token_bytes l))) 0)) (sym is)
    ∙ ap (λ n. 0x61 ∷ 0x72 ∷ 0x74 ∷ 0x78 ∷ (spelled ++ replicate n 0)) (sym zeros)
    ∙ whole
