-- A byte in two digits.
use Rattle.sd_whole_text.proofs.Cited.{byte_text, digits, false, format_spec, hex_byte, padded_integral, [], ℕ, ◌-◌, ◌<◌, ◌^◌, ◌≡◌}

-- what is printed of a byte
pub two_digits : (n : ℕ) → n < 256 → padded_integral (format_spec 32 0 4 2 (2 ^ 64 - 1)) false [] (digits 16 false n) ≡ byte_text n
two_digits n lt = hex_byte false n lt
