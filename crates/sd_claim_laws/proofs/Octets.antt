-- The printed text of octets is parsed as these octets.
use Rattle.std.proofs.Common.{List, Ok, [], arith, false, refl, suc, true, zero, ℕ, ◌%◌, ◌++◌, ◌/◌, ◌<◌, ◌∷◌, ◌≡◌}
use Rattle.std.specs.Prelude.{codes, nat_lt, slice_index}
use Rattle.std.specs.Char.{digit_value, eq_ignore_ascii_case}
use Rattle.std.specs.Str.Parse.{AllDigits, IsNumeral}
use Rattle.std.proofs.lemmas.Bool.{ltb-true}
use Rattle.std.proofs.lemmas.Bool.Decides.{nat_tests}
use Rattle.hex.proofs.HexLemmas.{decode_of-encode_upper}
use Rattle.hex.specs.Hex.{decode_pairs, encode_upper, encode_with, upper_digits}
use Rattle.sd_data.specs.Writing.{AreOctets}
use Rattle.sd_text.proofs.Runs.{run_begins, run_behind, run_digits}
use Rattle.sd_text.specs.Grammar.{Run, begins, begins_digit}
use Rattle.sd_claim_text.specs.Value.{octets_found, octets_text}
use Rattle.sd_claim_laws.proofs.Closing.{Closing, closed, comma, parenthesis}
use Rattle.sd_claim_laws.proofs.Tried.{all_below, each_below}

-- ---- digits

tried : all_below (λ k. nat_lt (digit_value (slice_index upper_digits k)) 16) 16 ≡ true
unfolding all_below
tried = refl

pub is_digit : (k : ℕ) → k < 16 → digit_value (slice_index upper_digits k) < 16
is_digit k lt = ltb-true (digit_value (slice_index upper_digits k)) 16 (each_below (λ k. nat_lt (digit_value (slice_index upper_digits k)) 16) 16 k tried lt)

all_digits : (octets : List ℕ) → AreOctets octets → AllDigits 16 (encode_upper octets)
unfolding encode_with
all_digits [] are = tt
all_digits (o ∷ octets) are = let fits = are.0 in (is_digit (o / 16) (omega arith), (is_digit (o % 16) (omega arith), all_digits octets are.1))

no_sign : (d : ℕ) → digit_value d < 16 → eq_ignore_ascii_case d 35 ≡ false
no_sign d lt = grind (arith, nat_tests)

pub small_at : (octets : List ℕ) (i : ℕ) → AreOctets octets → slice_index octets i < 256
small_at [] i are = omega arith
small_at (o ∷ octets) zero are = are.0
small_at (o ∷ octets) (suc i) are = small_at octets i are.1

-- ---- octets

none_read : (c : Closing) (rest : List ℕ) → octets_found (35 ∷ closed c rest) ≡ Ok ([], closed c rest)
unfolding octets_found decode_pairs
none_read comma rest = refl
none_read parenthesis rest = refl

ends : (c : Closing) (rest : List ℕ) → begins_digit 16 (closed c rest) ≡ false
ends comma rest = refl
ends parenthesis rest = refl

some_digits : (o : ℕ) (octets : List ℕ) → AreOctets (o ∷ octets) → IsNumeral 16 (encode_upper (o ∷ octets))
unfolding encode_with
some_digits o octets are = (omega arith, all_digits (o ∷ octets) are)

not_signed : (o : ℕ) (octets rest : List ℕ) → AreOctets (o ∷ octets) → begins (encode_upper (o ∷ octets) ++ rest) (codes "#") ≡ false
unfolding encode_with
not_signed o octets rest are = let fits = are.0 in no_sign (slice_index upper_digits (o / 16)) (is_digit (o / 16) (omega arith))

pub octets_read : (octets : List ℕ) (c : Closing) (rest : List ℕ) → AreOctets octets → octets_found (octets_text octets ++ closed c rest) ≡ Ok (octets, closed c rest)
unfolding octets_found
octets_read [] c rest are = none_read c rest
octets_read (o ∷ octets) c rest are =
    let ds = encode_upper (o ∷ octets) in
    let text = ds ++ closed c rest in
    let run : Run 16 text ds (closed c rest) = record { parts = refl; numeral = some_digits o octets are; whole = ends c rest } in
    rw (
      not_signed o octets (closed c rest) are,
      run_begins 16 text ds (closed c rest) run,
      run_digits 16 text ds (closed c rest) run,
      run_behind 16 text ds (closed c rest) run,
      decode_of-encode_upper (o ∷ octets) (λ i. small_at (o ∷ octets) i are),
    ) refl
