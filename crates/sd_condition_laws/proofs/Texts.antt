-- The text of a text is parsed as the text: between its quotes are its characters as UTF-8.
use Rattle.std.proofs.Common.{Bool, List, Ok, Some, [], ap, append_assoc, arith, inl, inr, refl, subst, true, ℕ, ◌%◌, ◌++◌, ◌+◌, ◌/◌, ◌∙◌, ◌∷◌, ◌≡◌, ◌≤◌}
use Rattle.std.proofs.Math.Seq.{drop-append_seam, take-append_seam}
use Rattle.std.proofs.Math.Utf8.{encode}
use Rattle.std.proofs.lemmas.Bool.{and_parts, cases_Bool, not-true, or_parts}
use Rattle.std.proofs.lemmas.Bool.Decides.{nat_tests}
use Rattle.std.proofs.lemmas.Str.{chars-encodes, is_utf8-from_IsUtf8}
use Rattle.std.specs.Char.Escape.{encode_utf16}
use Rattle.std.specs.Char.Utf16.{has_unpaired_surrogate, utf16_lossy_chars}
use Rattle.std.specs.List.{flat_map, list_all, list_any}
use Rattle.std.specs.Prelude.{not, nat_lt, ◌&&◌, ◌==◌, ◌||◌}
use Rattle.std.specs.Str.{NonePass, encode_utf8_all}
use Rattle.sd_data.proofs.Found.{held, some_is}
use Rattle.sd_data.specs.Writing.{AreUnits}
use Rattle.sd_condition_laws.proofs.Runs.{run_all}
use Rattle.sd_condition_parse.specs.Run.{is_unquoted}
use Rattle.sd_condition_parse.specs.Value.{quoted}
use Rattle.sd_condition_text.proofs.Units.{spelled}
use Rattle.sd_condition_text.specs.Value.{is_unquotable, quoted_text}

-- ---- the bytes of a character

large : (b : ℕ) → 128 ≤ b → is_unquoted b ≡ true
large b high = grind (arith, nat_tests)

all_append : (p : ℕ → Bool) (xs ys : List ℕ) → list_all p xs ≡ true → list_all p ys ≡ true → list_all p (xs ++ ys) ≡ true
all_append p [] ys a b = b
all_append p (x ∷ xs) ys a b = let parts = and_parts (p x) (list_all p xs) a in rw parts.0 (all_append p xs ys parts.1 b)

-- the bytes of a character that is no quote and not zero
unquoted_bytes : (c : ℕ) → is_unquoted c ≡ true → list_all is_unquoted (encode c) ≡ true
unfolding encode
unquoted_bytes c e =
    elim (cases_Bool (nat_lt c 128)) [
      | inl h ↦ rw (h, e) refl
      | inr h ↦ rw h (elim (cases_Bool (nat_lt c 2048)) [
        | inl g ↦ rw (g, large (192 + c / 64) (omega arith), large (128 + c % 64) (omega arith)) refl
        | inr g ↦ rw g (elim (cases_Bool (nat_lt c 65536)) [
          | inl k ↦ rw (k, large (224 + c / 4096) (omega arith), large (128 + c / 64 % 64) (omega arith), large (128 + c % 64) (omega arith)) refl
          | inr k ↦ rw (k, large (240 + c / 262144) (omega arith), large (128 + c / 4096 % 64) (omega arith), large (128 + c / 64 % 64) (omega arith), large (128 + c % 64) (omega arith)) refl
        ])
      ])
    ]

-- the bytes of characters that are none
unquoted_all : (cs : List ℕ) → NonePass (λ c. c == 0x22 || c == 0) cs → list_all is_unquoted (encode_utf8_all cs) ≡ true
unquoted_all [] plain = refl
unquoted_all (c ∷ cs) plain =
    let parts = or_parts (c == 0x22) (c == 0) plain.0 in
    all_append is_unquoted (encode c) (encode_utf8_all cs) (unquoted_bytes c (rw (parts.0, parts.1) refl)) (unquoted_all cs plain.1)

-- ---- texts

pub texts_come_back : (units text rest : List ℕ) → AreUnits units → quoted_text units ≡ Some text → quoted (text ++ rest) ≡ Ok (units, rest)
unfolding quoted_text quoted
texts_come_back units text rest all e =
    let bytes = encode_utf8_all (utf16_lossy_chars units) in
    let found = held (not (has_unpaired_surrogate units) && not (list_any is_unquotable units)) (Some (0x22 ∷ (bytes ++ 0x22 ∷ []))) text e in
    let tests = and_parts (not (has_unpaired_surrogate units)) (not (list_any is_unquotable units)) found.0 in
    let is = spelled units all (not-true (has_unpaired_surrogate units) tests.0) (not-true (list_any is_unquotable units) tests.1) in
    let len = run_all is_unquoted bytes (0x22 ∷ rest) (unquoted_all (utf16_lossy_chars units) is.plain) refl in
    let utf8 = is_utf8-from_IsUtf8 bytes (utf16_lossy_chars units, (is.scalars, refl)) in
    let back = ap (λ (cs : List ℕ). flat_map encode_utf16 cs) (chars-encodes (utf16_lossy_chars units) is.scalars) ∙ is.same in
    subst (λ t. quoted (t ++ rest) ≡ Ok (units, rest)) (some_is (0x22 ∷ (bytes ++ 0x22 ∷ [])) text found.1)
    (rw (append_assoc bytes (0x22 ∷ []) rest, len, take-append_seam bytes (0x22 ∷ rest), drop-append_seam bytes (0x22 ∷ rest), utf8, back) refl)
