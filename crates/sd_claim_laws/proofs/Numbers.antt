-- The printed text of a number is parsed as that number.
use Rattle.std.proofs.Common.{List, Ok, Some, [], append_assoc, arith, false, inl, inr, refl, suc, ℕ, ◌%◌, ◌++◌, ◌+◌, ◌-◌, ◌/◌, ◌<◌, ◌^◌, ◌∷◌, ◌≡◌, ◌≤◌}
use Rattle.std.specs.Prelude.{FitsSigned, codes, negsuc, pos, ℤ, ◌==◌}
use Rattle.std.specs.Char.{digit_value, eq_ignore_ascii_case}
use Rattle.std.specs.Fmt.{decimal, signed_decimal}
use Rattle.std.specs.Int.{w64}
use Rattle.std.specs.Str.Parse.{IsNumeral, digits_value}
use Rattle.std.proofs.lemmas.Bool.{eqb-true, eqb-false, le-leb, lt-ltb}
use Rattle.std.proofs.lemmas.Bool.Decides.{nat_tests}
use Rattle.std.proofs.lemmas.Fmt.{decimal_by_steps, decimal_digit, decimal_is_IsNumeral, digits_is_IsNumeral}
use Rattle.sd_text.proofs.Parts.{went}
use Rattle.sd_text.proofs.Runs.{run_begins, run_behind, run_digits}
use Rattle.sd_text.specs.Canon.{hex}
use Rattle.sd_text.specs.Grammar.{Run, begins, begins_digit}
use Rattle.sd_claim_text.specs.Number.{digits_found, integer_found, magnitude_found, unsigned_found}
use Rattle.sd_claim_laws.proofs.Closing.{Closing, closed, comma, parenthesis}

-- ---- digits

digits_read : (radix n : ℕ) (ds rest : List ℕ) → IsNumeral radix ds → digits_value radix ds ≡ n → n < 2 ^ 64 → begins_digit radix rest ≡ false → digits_found radix (ds ++ rest) ≡ Ok (Some n, rest)
digits_read radix n ds rest numeral same lt ends =
    let run : Run radix (ds ++ rest) ds rest = record { parts = refl; numeral = numeral; whole = ends } in
    rw (run_begins radix (ds ++ rest) ds rest run, run_digits radix (ds ++ rest) ds rest run, run_behind radix (ds ++ rest) ds rest run, same, lt-ltb n (2 ^ 64) lt) refl

-- a digit is neither a sign nor, unless it is 0, a zero
no_minus : (d : ℕ) → digit_value d < 10 → eq_ignore_ascii_case d 45 ≡ false
no_minus d lt = grind (arith, nat_tests)

no_plus : (d : ℕ) → digit_value d < 10 → eq_ignore_ascii_case d 43 ≡ false
no_plus d lt = grind (arith, nat_tests)

no_zero : (n : ℕ) → 0 < n → n < 10 → eq_ignore_ascii_case (48 + n) 48 ≡ false
no_zero n some small = grind (arith, nat_tests)

without_sign : (ds rest : List ℕ) → IsNumeral 10 ds → (begins (ds ++ rest) (codes "-") ≡ false) × (begins (ds ++ rest) (codes "+") ≡ false)
without_sign [] rest numeral = absurd (let some = numeral.0 in omega arith)
without_sign (d ∷ ds) rest numeral = (no_minus d numeral.1.0, no_plus d numeral.1.0)

-- the first digit of a number that isn't 0
abbrev IsFirst : ℕ → List ℕ → Type 0
IsFirst n ds = 0 < n → (rest : List ℕ) → begins (ds ++ rest) (codes "0") ≡ false

first_one : (n : ℕ) → n < 10 → IsFirst n ((48 + n) ∷ [])
first_one n small some rest = no_zero n some small

first_more : (n : ℕ) (ds : List ℕ) → 10 ≤ n → IsFirst (n / 10) ds → IsFirst n (ds ++ ((48 + n % 10) ∷ []))
first_more n ds large before some rest = rw (append_assoc ds ((48 + n % 10) ∷ []) rest) (before (omega arith) ((48 + n % 10) ∷ rest))

first_digit : (n : ℕ) → n < 2 ^ 64 → IsFirst n (decimal n)
first_digit n lt = decimal_by_steps IsFirst first_one first_more n lt

no_head : (text : List ℕ) → begins text (codes "0") ≡ false → begins text (codes "0X") ≡ false
no_head [] none = refl
no_head (c ∷ text) none = rw none refl

-- ---- magnitudes

ends_10 : (c : Closing) (rest : List ℕ) → begins_digit 10 (closed c rest) ≡ false
ends_10 comma rest = refl
ends_10 parenthesis rest = refl

ends_16 : (c : Closing) (rest : List ℕ) → begins_digit 16 (closed c rest) ≡ false
ends_16 comma rest = refl
ends_16 parenthesis rest = refl

zero_read : (c : Closing) (rest : List ℕ) → magnitude_found (48 ∷ closed c rest) ≡ Ok (Some 0, closed c rest)
unfolding magnitude_found
zero_read comma rest = refl
zero_read parenthesis rest = refl

decimal_read : (n : ℕ) (c : Closing) (rest : List ℕ) → n < 2 ^ 64 → magnitude_found (decimal n ++ closed c rest) ≡ Ok (Some n, closed c rest)
unfolding magnitude_found
decimal_read n c rest lt =
    elim (went (n == 0)) [
      | inl h ↦
          let none = eqb-true n 0 h in
          let text : decimal 0 ≡ 48 ∷ [] = decimal_digit 0 (omega arith) in
          rw (none, text) (zero_read c rest)
      | inr h ↦
          let other = eqb-false n 0 h in
          let first = first_digit n lt (omega arith) (closed c rest) in
          let digits = decimal_is_IsNumeral n lt in
          rw (no_head (decimal n ++ closed c rest) first, first) (digits_read 10 n (decimal n) (closed c rest) digits.0 digits.1 lt (ends_10 c rest))
    ]

-- ---- numbers

pub unsigned_read : (most n : ℕ) (c : Closing) (rest : List ℕ) → n ≤ most → n < 2 ^ 64 → unsigned_found most (decimal n ++ closed c rest) ≡ Ok (n, closed c rest)
unfolding unsigned_found
unsigned_read most n c rest le lt =
    let sign = without_sign (decimal n) (closed c rest) (decimal_is_IsNumeral n lt).0 in
    rw (sign.0, sign.1, decimal_read n c rest lt, le-leb n most le) refl

pub flags_read : (n : ℕ) (c : Closing) (rest : List ℕ) → n < 2 ^ 32 → unsigned_found (2 ^ 32 - 1) (48 ∷ 120 ∷ (hex n ++ closed c rest)) ≡ Ok (n, closed c rest)
unfolding unsigned_found magnitude_found
flags_read n c rest lt =
    let digits = digits_is_IsNumeral 16 false (omega arith) (omega arith) n (omega arith) in
    rw (digits_read 16 n (hex n) (closed c rest) digits.0 digits.1 (omega arith) (ends_16 c rest), le-leb n (2 ^ 32 - 1) (omega arith)) refl

pub integer_read : (z : ℤ) (c : Closing) (rest : List ℕ) → FitsSigned w64 z → integer_found (signed_decimal z ++ closed c rest) ≡ Ok (z, closed c rest)
unfolding integer_found
integer_read (pos n) c rest fits =
    let sign = without_sign (decimal n) (closed c rest) (decimal_is_IsNumeral n (omega arith)).0 in
    rw (sign.0, sign.1, decimal_read n c rest (omega arith), lt-ltb n (2 ^ 63) (omega arith)) refl
integer_read (negsuc n) c rest fits = rw (decimal_read (suc n) c rest (omega arith), le-leb (suc n) (2 ^ 63) (omega arith)) refl
