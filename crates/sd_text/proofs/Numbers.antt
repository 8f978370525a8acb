-- Decimal digits, two at a time from the last ones on.
use Rattle.sd_text.proofs.Cited.{List, [], append-nil, append_assoc, arith, decimal, decimal_digit, decimal_step, false, format_spec, hex, length, number_padding, refl, replicate, two_digits, ℕ, ◌%◌, ◌++◌, ◌+◌, ◌-◌, ◌/◌, ◌<◌, ◌^◌, ◌∷◌, ◌≡◌, ◌≤◌}
use Rattle.std.specs.Fmt.{char_count, padded_integral}

pub one_digit : (n : ℕ) → n < 10 → decimal n ≡ (48 + n) ∷ []
one_digit n small = decimal_digit n small

pub one_pair : (n : ℕ) → 10 ≤ n → n < 100 → decimal n ≡ two_digits n
one_pair n some small = rw (decimal_step n some (omega arith), decimal_digit (n / 10) (omega arith)) refl

pub another_pair : (n : ℕ) (before : List ℕ) → 100 ≤ n → n < 2 ^ 32 → (before ++ decimal (n / 100)) ++ two_digits (n % 100) ≡ before ++ decimal n
another_pair n before some small =
    let front : n / 10 / 10 ≡ n / 100 = omega arith in
    let tens : n / 10 % 10 ≡ n % 100 / 10 = omega arith in
    let ones : n % 10 ≡ n % 100 % 10 = omega arith in
    rw (decimal_step n (omega arith) (omega arith), decimal_step (n / 10) (omega arith) (omega arith), front, tens, ones) (simp append_assoc)

-- a number in twelve hexadecimal digits
pub twelve_digits : (n : ℕ) → padded_integral (format_spec 32 0 4 12 (2 ^ 64 - 1)) false [] (hex n) ≡ replicate (12 - length (hex n)) 48 ++ hex n
unfolding padded_integral char_count
twelve_digits n =
    let zeros : number_padding (format_spec 32 0 4 12 (2 ^ 64 - 1)) false [] (length (hex n)) ≡ 12 - length (hex n) = omega arith in
    simp (append-nil, zeros)
