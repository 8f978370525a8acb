-- What is parsed are tokens: their numbers have the bits that they may have.
use Rattle.sd_condition.proofs.Cited.{All-from_recursion, AllByRecursion, AreTokens, AreUnits, Attribute, Base, Fits-of_lt, FitsSigned, Integer, IsSid, IsToken, IsValue, List, None, Ok, Option, ParsedIsACondition, Result, Scope, SidError, SidValue, Sign, Some, Token, Value, Width, [], after, ap, arith, attribute_read, authority_of, base_read, cells_fit, cond, condition_of, content_len, false, from_le_bytes, get_or, i64_at, inl, inr, is_condition, is_padding, length, length-map-range_with_len, list_read, ltb-false, map, nat_le, nat_lt, not, operator_read, or_parts, padded_read, range_with_len, scope_read, sfits_to_z, sid_read, sign_read, slice_range, subst, suc, true, u16_at, u32_at, u32s_at, w64, width_read, zero, ℕ, ◌%◌, ◌*◌, ◌+◌, ◌-◌, ◌/◌, ◌<◌, ◌==◌, ◌>>=◌, ◌^◌, ◌||◌, ◌∷◌, ◌≡◌, ◌≤◌}
use Rattle.sd_sid.proofs.Outcomes.{passed as sid_passed}
use Rattle.sd_sid.specs.SidBytes.{sid_reading}
use Rattle.sd_sid.specs.declared.sid.SidError.TheVariants as sid_errors
use Rattle.sd_condition.proofs.DataComesBack.{IsBytes, after_fits, condition_is, sid_found}
use Rattle.sd_data.proofs.Found.{bound, chosen, held, passed, some_is}
use Rattle.sd_condition.specs.Reading.{condition_read, integer_read, literal_read, token_read, tokens_read, value_read, values_read}
use Rattle.sd_data.specs.Reading.{text_read}
use Rattle.sd_condition.specs.declared.token.Token.TheVariants as tokens
use Rattle.sd_condition.specs.declared.value.Value.TheVariants as values

-- ---- contents

units_small : (bytes : List ℕ) (a n : ℕ) → IsBytes bytes → AreUnits (map (λ k. u16_at bytes (2 * k)) (range_with_len a n))
units_small bytes a zero fits = tt
units_small bytes a (suc n) fits = (omega (arith, fits (2 * a), fits (2 * a + 1)), units_small bytes (a + 1) n fits)

text_sound : (bytes units : List ℕ) → IsBytes bytes → text_read bytes ≡ Some units → AreUnits units
unfolding text_read
text_sound bytes units fits e =
    let read : List ℕ = map (λ k. u16_at bytes (2 * k)) (range_with_len 0 (length bytes / 2)) in
    let found = held (length bytes % 2 == 0) (Some read) units e in
    subst AreUnits (some_is read units found.1) (units_small bytes 0 (length bytes / 2) fits)

octets_small : (bytes : List ℕ) → IsBytes bytes → AllByRecursion (λ octet. octet < 2 ^ 8) bytes
octets_small [] fits = tt
octets_small (x ∷ xs) fits = (fits 0, octets_small xs (λ i. fits (suc i)))

words_small : (bytes : List ℕ) (a n : ℕ) → IsBytes bytes → AllByRecursion (λ sub. sub < 2 ^ 32) (map (λ k. u32_at bytes (8 + 4 * k)) (range_with_len a n))
words_small bytes a zero fits = tt
words_small bytes a (suc n) fits =
    (omega (arith, fits (8 + 4 * a), fits (8 + 4 * a + 1), fits (8 + 4 * a + 2), fits (8 + 4 * a + 3)), words_small bytes (a + 1) n fits)

not_zero : (n : ℕ) → (n == 0) ≡ false → 0 < n
not_zero zero some = absurd cc
not_zero (suc n) some = omega arith

abbrev found : SidValue × ℕ → Result (SidValue × ℕ) SidError
found x = Ok x

sid_result : (x y : SidValue × ℕ) → found x ≡ found y → x ≡ y
sid_result x y e = cc

sid_sound : (bytes : List ℕ) (s : SidValue) (n : ℕ) → IsBytes bytes → sid_reading bytes ≡ Ok (s, n) → IsSid s
unfolding sid_reading
sid_sound bytes s n fits e =
    let count = get_or bytes 1 0 in
    let long = sid_passed (nat_lt (length bytes) 8) sid_errors.Short _ _ e in
    let revision = sid_passed (not (get_or bytes 0 0 == 1)) sid_errors.Revision _ _ long.1 in
    let counted = sid_passed (count == 0 || nat_lt 15 count) sid_errors.Count _ _ revision.1 in
    let room = sid_passed (nat_lt (length bytes) (8 + 4 * count)) sid_errors.Short _ _ counted.1 in
    let read : SidValue = record { authority = authority_of bytes; subs = u32s_at bytes 8 count } in
    let is : read ≡ s = ap (λ (x : SidValue × ℕ). x.0) (sid_result (read, 8 + 4 * count) (s, n) room.1) in
    let parts = or_parts (count == 0) (nat_lt 15 count) counted.0 in
    let some : 0 < count = not_zero count parts.0 in
    let few : count ≤ 15 = ltb-false 15 count parts.1 in
    let sized : length (u32s_at bytes 8 count) ≡ count = length-map-range_with_len (λ k. u32_at bytes (8 + 4 * k)) 0 count in
    subst IsSid is (record {
      authority = omega (arith, fits 2, fits 3, fits 4, fits 5, fits 6, fits 7);
      some = omega (arith, sized);
      few = omega (arith, sized);
      words = All-from_recursion (λ sub. sub < 2 ^ 32) (u32s_at bytes 8 count) (words_small bytes 0 count fits);
    })

-- ---- values

integer_sound : (bytes : List ℕ) (i : Integer) → IsBytes bytes → integer_read bytes ≡ Some i → FitsSigned w64 i.value
unfolding integer_read
integer_sound bytes i fits e =
    let made : Width → Sign → Base → Integer = λ width sign base. record { width = width; value = i64_at bytes 1; sign = sign; base = base } in
    let with_sign : Width → Sign → Option Integer = λ width sign. base_read (get_or bytes 10 0) >>= λ base. Some (made width sign base) in
    let with_width : Width → Option Integer = λ width. sign_read (get_or bytes 9 0) >>= with_sign width in
    let long = passed (nat_lt (length bytes) 11) (width_read (get_or bytes 0 0) >>= with_width) i e in
    let width = bound (width_read (get_or bytes 0 0)) with_width i long.1 in
    let sign = bound (sign_read (get_or bytes 9 0)) (with_sign width.0) i width.2 in
    let base = bound (base_read (get_or bytes 10 0)) (λ base. Some (made width.0 sign.0 base)) i sign.2 in
    let number = from_le_bytes w64 (get_or bytes 1 0 ∷ get_or bytes 2 0 ∷ get_or bytes 3 0 ∷ get_or bytes 4 0 ∷ get_or bytes 5 0 ∷ get_or bytes 6 0 ∷ get_or bytes 7 0 ∷ get_or bytes 8 0 ∷ []) in
    let small : number < 2 ^ 64 = omega (arith, fits 1, fits 2, fits 3, fits 4, fits 5, fits 6, fits 7, fits 8) in
    subst (λ (x : Integer). FitsSigned w64 x.value) (some_is (made width.0 sign.0 base.0) i base.2) (sfits_to_z (Fits-of_lt {w = w64} small))

literal_sound : (byte : ℕ) (content : List ℕ) (v : Value) → IsBytes content → literal_read byte content ≡ Some v → IsValue v
unfolding literal_read
literal_sound byte content v fits e =
    elim (chosen (byte == 0x10) _ _ v e) [
      | inl h ↦
          let text = bound (text_read content) (λ text. Some (values.Text text)) v h.1 in
          subst IsValue (some_is (values.Text text.0) v text.2) (text_sound content text.0 fits text.1)
      | inr h ↦ elim (chosen (byte == 0x18) _ _ v h.1) [
        | inl g ↦ subst IsValue (some_is (values.Octets content) v g.1) (octets_small content fits)
        | inr g ↦
            let last = held (byte == 0x51) _ v g.1 in
            let sid = bound (sid_read content) (λ sid. Some (values.Sid sid)) v last.1 in
            subst IsValue (some_is (values.Sid sid.0) v sid.2)
            (sid_sound content sid.0 (length content) fits (sid_found (length content) (sid_reading content) sid.0 sid.1))
      ]
    ]

value_sound : (bytes : List ℕ) (x : Value × ℕ) → IsBytes bytes → value_read bytes ≡ Some x → IsValue x.0
unfolding value_read
value_sound bytes x fits e =
    let byte = get_or bytes 0 0 in
    let sound : Value × ℕ → Type 0 = λ y. IsValue y.0 in
    elim (chosen (nat_le byte 0x04) _ _ x e) [
      | inl h ↦
          let integer = bound (integer_read bytes) (λ integer. Some (values.Integer integer, 11)) x h.1 in
          subst sound (some_is (values.Integer integer.0, 11) x integer.2) (integer_sound bytes integer.0 fits integer.1)
      | inr h ↦
          let content : ℕ → List ℕ = λ n. slice_range bytes 5 (5 + n) in
          let with_len : ℕ → Option (Value × ℕ) = λ n. literal_read byte (content n) >>= λ value. Some (value, 5 + n) in
          let len = bound (content_len bytes) with_len x h.1 in
          let value = bound (literal_read byte (content len.0)) (λ value. Some (value, 5 + len.0)) x len.2 in
          subst sound (some_is (value.0, 5 + len.0) x value.2)
          (literal_sound byte (content len.0) value.0 (cells_fit bytes 5 (5 + len.0 - 5) fits) value.1)
    ]

values_sound : (most : ℕ) (bytes : List ℕ) (vs : List Value) → IsBytes bytes → values_read most bytes ≡ Some vs → AllByRecursion IsValue vs
unfolding values_read
values_sound zero bytes vs fits e = subst (AllByRecursion IsValue) (some_is [] vs (held (length bytes == 0) (Some []) vs e).1) tt
values_sound (suc most) bytes vs fits e =
    elim (chosen (length bytes == 0) (Some []) _ vs e) [
      | inl h ↦ subst (AllByRecursion IsValue) (some_is [] vs h.1) tt
      | inr h ↦
          let with_first : Value × ℕ → Option (List Value) = λ first. values_read most (after first.1 bytes) >>= λ others. Some (first.0 ∷ others) in
          let first = bound (value_read bytes) with_first vs h.1 in
          let others = bound (values_read most (after first.0.1 bytes)) (λ others. Some (first.0.0 ∷ others)) vs first.2 in
          subst (AllByRecursion IsValue) (some_is (first.0.0 ∷ others.0) vs others.2)
          (value_sound bytes first.0 fits first.1, values_sound most (after first.0.1 bytes) others.0 (after_fits bytes first.0.1 fits) others.1)
    ]

-- ---- tokens

attribute_sound : (byte : ℕ) (content : List ℕ) (a : Attribute) → IsBytes content → attribute_read byte content ≡ Some a → AreUnits a.name
attribute_sound byte content a fits e =
    let made : Scope → List ℕ → Attribute = λ scope name. record { scope = scope; name = name } in
    let with_scope : Scope → Option Attribute = λ scope. text_read content >>= λ name. Some (made scope name) in
    let scope = bound (scope_read byte) with_scope a e in
    let name = bound (text_read content) (λ name. Some (made scope.0 name)) a scope.2 in
    subst (λ (x : Attribute). AreUnits x.name) (some_is (made scope.0 name.0) a name.2) (text_sound content name.0 fits name.1)

token_sound : (bytes : List ℕ) (x : Token × ℕ) → IsBytes bytes → token_read bytes ≡ Some x → IsToken x.0
unfolding token_read
token_sound bytes x fits e =
    let byte = get_or bytes 0 0 in
    let content : ℕ → List ℕ = λ n. slice_range bytes 5 (5 + n) in
    let content_fits : (n : ℕ) → IsBytes (content n) = λ n. cells_fit bytes 5 (5 + n - 5) fits in
    let sound : Token × ℕ → Type 0 = λ y. IsToken y.0 in
    elim (chosen (nat_le 0xf8 byte) _ _ x e) [
      | inl h ↦
          let len = bound (content_len bytes) (λ n. attribute_read byte (content n) >>= λ attribute. Some (tokens.Attribute attribute, 5 + n)) x h.1 in
          let attribute = bound (attribute_read byte (content len.0)) (λ attribute. Some (tokens.Attribute attribute, 5 + len.0)) x len.2 in
          subst sound (some_is (tokens.Attribute attribute.0, 5 + len.0) x attribute.2) (attribute_sound byte (content len.0) attribute.0 (content_fits len.0) attribute.1)
      | inr h ↦ elim (chosen (nat_le 0x80 byte) _ _ x h.1) [
        | inl g ↦
            let operator = bound (operator_read byte) (λ operator. Some (tokens.Operator operator, 1)) x g.1 in
            subst sound (some_is (tokens.Operator operator.0, 1) x operator.2) tt
        | inr g ↦ elim (chosen (byte == 0x50) _ _ x g.1) [
          | inl l ↦
              let len = bound (content_len bytes) (λ n. list_read (content n) >>= λ list. Some (tokens.List list, 5 + n)) x l.1 in
              let list = bound (list_read (content len.0)) (λ list. Some (tokens.List list, 5 + len.0)) x len.2 in
              subst sound (some_is (tokens.List list.0, 5 + len.0) x list.2) (values_sound (length (content len.0)) (content len.0) list.0 (content_fits len.0) list.1)
          | inr l ↦
              let value = bound (value_read bytes) (λ value. Some (tokens.Value value.0, value.1)) x l.1 in
              subst sound (some_is (tokens.Value value.0.0, value.0.1) x value.2) (value_sound bytes value.0 fits value.1)
        ]
      ]
    ]

none_sound : (bytes : List ℕ) (ts : List Token) → cond (is_padding bytes) (Some []) None ≡ Some ts → AreTokens ts
none_sound bytes ts e = subst AreTokens (some_is [] ts (held (is_padding bytes) (Some []) ts e).1) tt

tokens_sound : (most : ℕ) (bytes : List ℕ) (ts : List Token) → IsBytes bytes → tokens_read most bytes ≡ Some ts → AreTokens ts
unfolding tokens_read
tokens_sound zero bytes ts fits e = none_sound bytes ts e
tokens_sound (suc most) bytes ts fits e =
    elim (chosen (get_or bytes 0 0 == 0) (cond (is_padding bytes) (Some []) None) _ ts e) [
      | inl h ↦ none_sound bytes ts h.1
      | inr h ↦
          let with_first : Token × ℕ → Option (List Token) = λ first. tokens_read most (after first.1 bytes) >>= λ others. Some (first.0 ∷ others) in
          let first = bound (token_read bytes) with_first ts h.1 in
          let others = bound (tokens_read most (after first.0.1 bytes)) (λ others. Some (first.0.0 ∷ others)) ts first.2 in
          subst AreTokens (some_is (first.0.0 ∷ others.0) ts others.2)
          (token_sound bytes first.0 fits first.1, tokens_sound most (after first.0.1 bytes) others.0 (after_fits bytes first.0.1 fits) others.1)
    ]

pub parsed_is_a_condition : ParsedIsACondition
unfolding condition_read
parsed_is_a_condition bytes ts fits e =
    let long = passed (nat_lt (length bytes) 4) _ ts e in
    let aligned = passed (not (length bytes % 4 == 0)) _ ts long.1 in
    let magic = passed (not (u32_at bytes 0 == 0x78747261)) _ ts aligned.1 in
    let read = bound (padded_read (after 4 bytes)) condition_of ts magic.1 in
    let is : read.0 ≡ ts = condition_is read.0 ts read.2 in
    let test = (held (is_condition read.0) (Some read.0) ts read.2).0 in
    subst (λ (l : List Token). AreTokens l × (is_condition l ≡ true)) is
    (tokens_sound (length (after 4 bytes)) (after 4 bytes) read.0 (after_fits bytes 4 fits) read.1, test)
