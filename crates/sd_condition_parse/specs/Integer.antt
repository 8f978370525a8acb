-- Integers in a condition's text ([MS-DTYP] 2.5.1.1, integer-value).
use Rattle.std.specs.Prelude.{ℕ, ℤ, pos, neg_ℤ, ◌+◌, ◌^◌, ◌&&◌, List, drop, codes, Ok, if◌then◌else◌}
use Rattle.sd_condition.specs.declared.integer.Base.{Base}
use Rattle.sd_condition.specs.declared.integer.Base.TheVariants.{Octal, Decimal, Hexadecimal}
use Rattle.sd_condition.specs.declared.integer.Integer.{Integer}
use Rattle.sd_condition.specs.declared.integer.Sign.{Sign}
use Rattle.sd_condition.specs.declared.integer.Sign.TheVariants.{Plus, Minus, Omitted}
use Rattle.sd_condition.specs.declared.integer.Width.TheVariants.{Int64}
use Rattle.sd_condition_parse.specs.Outcome.{Parser, found, ◌>>=◌}
use Rattle.sd_text.specs.Finding.{find}
use Rattle.sd_text.specs.Grammar.{begins, begins_digit, number}

abbrev pub sign : Parser Sign
sign text =
    if begins text (codes "+") then Ok (Plus, drop 1 text)
    else if begins text (codes "-") then Ok (Minus, drop 1 text)
    else Ok (Omitted, text)

-- a number with this sign is below this: the value has 64 bits
abbrev pub limit : Sign → ℕ
limit Plus = 2 ^ 63
limit Minus = 2 ^ 63 + 1
limit Omitted = 2 ^ 63

abbrev pub signed : Sign → ℕ → ℤ
signed Plus n = pos n
signed Minus n = neg_ℤ (pos n)
signed Omitted n = pos n

-- hexadecimal after `0x`, octal after a `0` that another digit follows, else decimal
abbrev pub base : List ℕ → Base
base text =
    if begins text (codes "0X") then Hexadecimal
    else if begins text (codes "0") && begins_digit 10 (drop 1 text) then Octal
    else Decimal

-- how many bytes precede the digits
abbrev pub head_len : Base → ℕ
head_len Octal = 1
head_len Decimal = 0
head_len Hexadecimal = 2

abbrev pub radix : Base → ℕ
radix Octal = 8
radix Decimal = 10
radix Hexadecimal = 16

-- the number of a sign and a base
abbrev pub integer_in : Sign → Base → Parser Integer
integer_in sign base = do
  n ← find (number (head_len base) (radix base) (limit sign))
  found (record { width = Int64; value = signed sign n; sign = sign; base = base })

unfoldable pub integer : Parser Integer
integer = do
  s ← sign
  (λ text. integer_in s (base text) text)
