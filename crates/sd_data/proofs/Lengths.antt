-- How many bytes each part takes.
use Rattle.sd_data.proofs.Cited.{List, None, Option, Some, SomeIff, [], ap, arith, length, refl, text_bytes, ℕ, ◌*◌, ◌<◌, ◌^◌, ◌∷◌, ◌≡◌, ◌≤◌}

pub length_of_text : (units : List ℕ) → length (text_bytes units) ≡ 2 * length units
length_of_text [] = refl
length_of_text (x ∷ xs) = omega (arith, length_of_text xs)

-- a length that is small enough is known
pub known_len : (n : Option ℕ) (size : ℕ) → SomeIff n (size < 2 ^ 64) size → size ≤ 65535 → n ≡ Some size
known_len None size is fits = absurd (is (omega arith))
known_len (Some k) size is fits = ap (λ x. Some x) is.1
