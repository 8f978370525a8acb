-- The names of attributes in a condition's text ([MS-DTYP] 2.5.1.1, attr-name).
use Rattle.std.specs.Prelude.{ℕ, ◌+◌, ◌*◌, Bool, true, false, not, ◌&&◌, ◌==◌, nat_le, List, [], ◌∷◌, ◌++◌, length}
use Rattle.std.specs.Prelude.{drop, slice_index, codes, Ok, Err, if◌then◌else◌}
use Rattle.std.specs.Char.{digit_value}
use Rattle.sd_condition.specs.declared.attribute.Attribute.{Attribute}
use Rattle.sd_condition.specs.declared.attribute.Scope.{Scope}
use Rattle.sd_condition.specs.declared.attribute.Scope.TheVariants.{Local, User, Resource, Device}
use Rattle.sd_condition_parse.specs.Outcome.{Parser, found, refused, choose, steps, ◌>>=◌}
use Rattle.sd_condition_parse.specs.Run.{is_digit, run, run_len}
use Rattle.sd_condition_parse.specs.declared.run.Class.TheVariants.{Plain}
use Rattle.sd_condition_text.specs.Attribute.{is_literal, is_text}
use Rattle.sd_text.specs.Finding.{behind_part}
use Rattle.sd_text.specs.Grammar.{begins}
use Rattle.sd_text.specs.declared.fault.TextFault.TheVariants.{Syntax}

-- ---- a name without a prefix (attr-name1)

unfoldable pub local_attribute : Parser Attribute
local_attribute = choose (λ text. run_len Plain text == 0) (refused Syntax)
    (run Plain >>= λ name. found (record { scope = Local; name = name }))

-- ---- a name with a prefix (attr-name2)

abbrev pub scope : Parser Scope
scope text =
    if begins text (codes "@USER.") then Ok (User, drop 6 text)
    else if begins text (codes "@RESOURCE.") then Ok (Resource, drop 10 text)
    else if begins text (codes "@DEVICE.") then Ok (Device, drop 8 text)
    else Err (Syntax, text)

-- the unit of an escape: a percent sign and four hexadecimal digits (lit-char)
abbrev pub escaped_unit : List ℕ → ℕ
escaped_unit text =
    digit_value (slice_index text 1) * 4096 + digit_value (slice_index text 2) * 256
    + digit_value (slice_index text 3) * 16 + digit_value (slice_index text 4)

abbrev pub is_escape : List ℕ → Bool
is_escape text =
    nat_le 5 (length text) && is_digit (slice_index text 1) && is_digit (slice_index text 2)
    && is_digit (slice_index text 3) && is_digit (slice_index text 4) && not (escaped_unit text == 0)

-- an escape, which isn't that of zero
abbrev pub escape : Parser ℕ
escape text = if is_escape text then Ok (escaped_unit text, drop 5 text) else Err (Syntax, text)

-- a unit of a name, and whether another may follow: a character as it is (attr-char2), or an escape
abbrev pub unit_step : List ℕ → Parser (Bool × List ℕ)
unit_step before text =
    if is_literal (slice_index text 0) then Ok ((true, before ++ slice_index text 0 ∷ []), drop 1 text)
    else if slice_index text 0 == 0x25
    then behind_part (escape text) (λ unit rest. Ok ((true, before ++ unit ∷ []), rest))
    else Ok ((false, before), text)

abbrev pub units : Parser (List ℕ)
units = steps unit_step []

-- UTF-16 units, at least one
abbrev pub is_name : List ℕ → Bool
is_name name = not (length name == 0) && is_text name

abbrev pub prefixed_name : Parser (List ℕ)
prefixed_name text = behind_part (units text)
    (λ name rest. if is_name name then Ok (name, rest) else Err (Syntax, text))

unfoldable pub prefixed_attribute : Parser Attribute
prefixed_attribute = do
  s ← scope
  name ← prefixed_name
  found (record { scope = s; name = name })

-- ---- attributes

unfoldable pub attribute : Parser Attribute
attribute = choose (λ text. begins text (codes "@")) prefixed_attribute local_attribute
