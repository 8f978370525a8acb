-- What is written is parsed again, and where a part and what follows it are.
use Rattle.sd_data.proofs.Cited.{All, All-from_recursion, All-get_or, AreUnits, Fits-lt-pow, Fits-of_z, FitsSigned, List, Some, add-zero, after, ap, arith, cast_signed, cast_unsigned, drop_at, eq-eqb, fill_by_all, from_le_bytes, from_le_bytes-to_le_bytes_2, from_le_bytes-to_le_bytes_8, get_or, get_or-flat_map, length, length-append, length-take-le, map, range_with_len, refl, sym, take, take_all, text_bytes, to_le_bytes, to_z-of_z, true, u16_at, w16, w64, ℕ, ℤ, ◌%◌, ◌*◌, ◌++◌, ◌+◌, ◌-◌, ◌/◌, ◌<◌, ◌==◌, ◌^◌, ◌∙◌, ◌≡◌}
use Rattle.sd_data.proofs.Lengths.{length_of_text}
use Rattle.sd_data.specs.Reading.{text_read}

-- the j-th byte of the k-th unit
unit_cell : (units : List ℕ) (k j : ℕ) → k < length units → j < 2 → get_or (text_bytes units) (2 * k + j) 0 ≡ get_or (to_le_bytes w16 (get_or units k 0)) j 0
unit_cell units k j h lt =
    let before : length (text_bytes (take k units)) ≡ 2 * k = length_of_text (take k units) ∙ ap (λ n. 2 * n) (length-take-le k units (omega arith)) in
    ap (λ i. get_or (text_bytes units) (i + j) 0) (sym before) ∙ get_or-flat_map (to_le_bytes w16) units k j 0 0 h lt

unit_again : (units : List ℕ) (k : ℕ) → All (λ unit. unit < 2 ^ 16) units → k < length units → u16_at (text_bytes units) (2 * k) ≡ get_or units k 0
unit_again units k small h =
    let first : get_or (text_bytes units) (2 * k) 0 ≡ get_or (to_le_bytes w16 (get_or units k 0)) 0 0 = ap (λ i. get_or (text_bytes units) i 0) (sym (add-zero (2 * k))) ∙ unit_cell units k 0 h (omega arith) in
    rw (first, unit_cell units k 1 h (omega arith)) (from_le_bytes-to_le_bytes_2 (get_or units k 0) (All-get_or (λ unit. unit < 2 ^ 16) units k 0 h small))

pub text_again : (units : List ℕ) → AreUnits units → text_read (text_bytes units) ≡ Some units
unfolding text_read
text_again units are =
    let bytes = text_bytes units in
    let small : All (λ unit. unit < 2 ^ 16) units = All-from_recursion (λ unit. unit < 2 ^ 16) units are in
    let even : (length bytes % 2 == 0) ≡ true = eq-eqb _ _ (omega (arith, length_of_text units)) in
    let half : length bytes / 2 ≡ length units = omega (arith, length_of_text units) in
    let again : map (λ k. u16_at bytes (2 * k)) (range_with_len 0 (length units)) ≡ units =
    sym (fill_by_all (λ k. u16_at bytes (2 * k)) units (length units) 0 refl (λ k h. sym (unit_again units k small h))) in
    rw (even, half, again) refl

pub signed_again : (n : ℤ) → FitsSigned w64 n → cast_signed w64 (from_le_bytes w64 (to_le_bytes w64 (cast_unsigned w64 n))) ≡ n
signed_again n fits = ap (cast_signed w64) (from_le_bytes-to_le_bytes_8 (cast_unsigned w64 n) (Fits-lt-pow (Fits-of_z fits))) ∙ to_z-of_z w64 n fits

-- what follows a part
pub after_part : (part rest : List ℕ) → after (length part) (part ++ rest) ≡ rest
after_part part rest =
    ap (take (length (part ++ rest) - length part)) (drop_at part rest (length part) refl)
    ∙ take_all (length (part ++ rest) - length part) rest (omega (arith, length-append part rest))
