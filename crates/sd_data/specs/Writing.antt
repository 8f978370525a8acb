-- Texts and padding as bytes, and what texts and octets are.
use Rattle.std.specs.Prelude.{ℕ, ◌<◌, ◌^◌, ◌-◌, ◌%◌, Bool, not, ◌==◌, List}
use Rattle.std.specs.Int.{w16, to_le_bytes}
use Rattle.std.specs.List.{AllByRecursion, flat_map, list_all}

-- UTF-16 units, of which each has 16 bits
abbrev pub AreUnits : List ℕ → Type 0
AreUnits units = AllByRecursion (λ unit. unit < 2 ^ 16) units

-- octets, of which each has 8 bits
abbrev pub AreOctets : List ℕ → Type 0
AreOctets octets = AllByRecursion (λ octet. octet < 2 ^ 8) octets

-- no unit is zero, which would end the text in a claim
abbrev pub has_no_zero : List ℕ → Bool
has_no_zero units = list_all (λ unit. not (unit == 0)) units

-- UTF-16 units, little-endian
abbrev pub text_bytes : List ℕ → List ℕ
text_bytes units = flat_map (to_le_bytes w16) units

-- how many zero bytes follow so many bytes, up to a multiple of four
abbrev pub padding_len : ℕ → ℕ
padding_len n = (4 - n % 4) % 4
