-- The printed text of a text is parsed as that text.
use Rattle.std.proofs.Common.{List, Ok, Some, [], append_assoc, arith, drop, false, get_or, inl, inr, length, refl, sym, take, ℕ, ◌++◌, ◌+◌, ◌<◌, ◌∷◌, ◌≡◌}
use Rattle.std.specs.Prelude.{not, ◌&&◌}
use Rattle.std.specs.Char.Utf16.{has_unpaired_surrogate, utf16_lossy_chars}
use Rattle.std.specs.List.{list_any, position_or_len}
use Rattle.std.specs.Str.{encode_utf8_all}
use Rattle.std.proofs.Math.Seq.{drop-append_seam, take-append_seam}
use Rattle.std.proofs.lemmas.Bool.{and_parts, cases_lt, ne_eqb, not-true}
use Rattle.std.proofs.lemmas.List.{get_or-append-add, get_or_append_left, length-append}
use Rattle.sd_text.proofs.Parts.{chosen}
use Rattle.std.proofs.lemmas.List.Sums.{position_or_len_is}
use Rattle.std.proofs.lemmas.Str.{NoCharPasses-byte, chars-encodes, is_utf8-from_IsUtf8}
use Rattle.sd_data.specs.Writing.{AreUnits}
use Rattle.sd_condition_text.specs.Value.{is_unquotable, quoted_text}
use Rattle.sd_claim_text.specs.Utf16.{utf16_found}
use Rattle.sd_claim_text.specs.Value.{ends_text, quoted_found}
use Rattle.sd_condition_text.proofs.Units.{AreSpelled, spelled}

-- no byte of the characters ends the text
no_end : (units cs : List ℕ) (i : ℕ) → AreSpelled units cs → i < length (encode_utf8_all cs) → ends_text (get_or (encode_utf8_all cs) i 0) ≡ false
no_end units cs i are lt =
    let byte = get_or (encode_utf8_all cs) i 0 in
    elim (cases_lt byte 128) [
      | inl low ↦ NoCharPasses-byte ends_text (encode_utf8_all cs) i (cs, refl, are.plain) lt low
      | inr high ↦ rw (ne_eqb byte 0x22 (omega arith), ne_eqb byte 0 (omega arith)) refl
    ]

place : (units cs rest : List ℕ) → AreSpelled units cs → position_or_len ends_text (encode_utf8_all cs ++ 0x22 ∷ rest) ≡ length (encode_utf8_all cs)
place units cs rest are =
    let bytes = encode_utf8_all cs in
    let sized = length-append bytes (0x22 ∷ rest) in
    position_or_len_is ends_text (bytes ++ 0x22 ∷ rest) (length bytes) 0 (omega arith)
    (λ k lt. rw (get_or_append_left bytes (0x22 ∷ rest) 0 k lt) (no_end units cs k are lt))
    (λ lt. let last : get_or (bytes ++ 0x22 ∷ rest) (length bytes) 0 ≡ 0x22 = (let same : length bytes + 0 ≡ length bytes = omega arith in rw same at (get_or-append-add bytes (0x22 ∷ rest) 0 0)) in rw last refl)

units_read : (units cs rest : List ℕ) → AreSpelled units cs → utf16_found ends_text (encode_utf8_all cs ++ 0x22 ∷ rest) ≡ Ok (units, 0x22 ∷ rest)
unfolding utf16_found
units_read units cs rest are =
    let bytes = encode_utf8_all cs in
    let front : take (length bytes) (bytes ++ 0x22 ∷ rest) ≡ bytes = take-append_seam bytes (0x22 ∷ rest) in
    let back : drop (length bytes) (bytes ++ 0x22 ∷ rest) ≡ 0x22 ∷ rest = drop-append_seam bytes (0x22 ∷ rest) in
    rw (place units cs rest are, front, back, is_utf8-from_IsUtf8 bytes (cs, (are.scalars, refl)), chars-encodes cs are.scalars, are.same) refl

pub quoted_back : (units text rest : List ℕ) → AreUnits units → quoted_text units ≡ Some text → quoted_found (text ++ rest) ≡ Ok (units, rest)
unfolding quoted_text quoted_found
quoted_back units text rest are e =
    elim (chosen (not (has_unpaired_surrogate units) && not (list_any is_unquotable units)) _ _ _ e) [
      | inl h ↦
          let tests = and_parts (not (has_unpaired_surrogate units)) (not (list_any is_unquotable units)) h.0 in
          let spelt = spelled units are (not-true _ tests.0) (not-true _ tests.1) in
          let bytes = encode_utf8_all (utf16_lossy_chars units) in
          let same : 0x22 ∷ (bytes ++ 0x22 ∷ []) ≡ text = cc (h.1) in
          let regroup : (bytes ++ 0x22 ∷ []) ++ rest ≡ bytes ++ 0x22 ∷ rest = append_assoc bytes (0x22 ∷ []) rest in
          rw (sym same, regroup, units_read units (utf16_lossy_chars units) rest spelt) refl
      | inr h ↦ absurd (let no = h.1 in cc)
    ]
