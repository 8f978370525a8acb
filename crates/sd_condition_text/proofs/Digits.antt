-- Numbers in hexadecimal digits, with zeros before them.
use Rattle.std.proofs.Common.{[], append-nil, arith, false, length, replicate, true, ℕ, ◌++◌, ◌-◌, ◌≡◌, ◌^◌}
use Rattle.std.specs.Fmt.{char_count, digits, format_spec, number_padding, padded_integral}

-- a number in two hexadecimal digits at least
pub two_digits : (n : ℕ) → padded_integral (format_spec 32 0 4 2 (2 ^ 64 - 1)) false [] (digits 16 true n) ≡ replicate (2 - length (digits 16 true n)) 48 ++ digits 16 true n
unfolding padded_integral char_count
two_digits n =
    let zeros : number_padding (format_spec 32 0 4 2 (2 ^ 64 - 1)) false [] (length (digits 16 true n)) ≡ 2 - length (digits 16 true n) = omega arith in
    simp (append-nil, zeros)
