-- Numbers in a claim's text (int-64, uint-64): a sign or none, then hexadecimal digits after `0x`, octal ones after
-- `0`, else decimal ones.
use Rattle.std.specs.Prelude.{ℕ, ℤ, pos, negsuc, zero, suc, ◌+◌, ◌*◌, ◌^◌, Bool, true, false, not, ◌&&◌, ◌||◌}
use Rattle.std.specs.Prelude.{◌==◌, nat_le, nat_lt, List, take, drop, Option, Some, None, Ok, Err, codes, if◌then◌else◌}
use Rattle.std.specs.Str.Parse.{digits_value}
use Rattle.sd_text.specs.Finding.{Found, digits_len}
use Rattle.sd_text.specs.Grammar.{begins, begins_digit}
use Rattle.sd_text.specs.declared.fault.TextFault.TheVariants.{Range, Syntax}
use Rattle.sd_claim_text.specs.Parser.{Reads}

-- ---- digits

-- a number, if it has 64 bits
abbrev pub in_64_bits : ℕ → Option ℕ
in_64_bits n = if nat_lt n (2 ^ 64) then Some n else None

-- with one more digit, if it has 64 bits still
abbrev pub with_digit : Option ℕ → ℕ → ℕ → Option ℕ
with_digit None radix digit = None
with_digit (Some n) radix digit = in_64_bits (n * radix + digit)

-- all digits at the front of the text, at least one
abbrev pub digits_found : ℕ → Reads (Option ℕ)
digits_found radix text =
    if begins_digit radix text
    then Ok (in_64_bits (digits_value radix (take (digits_len radix text) text)), drop (digits_len radix text) text)
    else Err (Syntax, text)

unfoldable pub magnitude_found : Reads (Option ℕ)
magnitude_found text =
    if begins text (codes "0X") then digits_found 16 (drop 2 text)
    else if begins text (codes "0") then digits_found 8 text
    else digits_found 10 text

-- ---- signs

abbrev pub is_negative : List ℕ → Bool
is_negative text = begins text (codes "-")

abbrev pub after_sign : List ℕ → List ℕ
after_sign text = if begins text (codes "-") || begins text (codes "+") then drop 1 text else text

-- ---- numbers

-- the value that was made of a number, if it is in range, else the fault, which is at the number's front
abbrev pub in_range : {A : Type 0} → List ℕ → Option A → Reads A
in_range front None rest = Err (Range, front)
in_range front (Some a) rest = Ok (a, rest)

-- what is made of a magnitude that was found
abbrev pub number_of : {A : Type 0} → List ℕ → (Option ℕ → Option A) → Found (Option ℕ) → Found A
number_of front value (Ok x) = in_range front (value x.0) x.1
number_of front value (Err e) = Err e

-- what is made of a sign and a magnitude
abbrev pub number_found : {A : Type 0} → (Bool → Option ℕ → Option A) → Reads A
number_found value text = number_of text (value (is_negative text)) (magnitude_found (after_sign text))

-- a number from 0 to the most
abbrev pub unsigned_value : ℕ → Bool → Option ℕ → Option ℕ
unsigned_value most negative None = None
unsigned_value most negative (Some n) = if nat_le n most && (not negative || n == 0) then Some n else None

-- 0 less a number
abbrev pub minus : ℕ → ℤ
minus zero = pos 0
minus (suc n) = negsuc n

-- a number of 64 bits in two's complement
abbrev pub integer_value : Bool → Option ℕ → Option ℤ
integer_value negative None = None
integer_value true (Some n) = if nat_le n (2 ^ 63) then Some (minus n) else None
integer_value false (Some n) = if nat_lt n (2 ^ 63) then Some (pos n) else None

unfoldable pub unsigned_found : ℕ → Reads ℕ
unsigned_found most = number_found (unsigned_value most)

unfoldable pub integer_found : Reads ℤ
integer_found = number_found integer_value
