-- Values in a condition's text ([MS-DTYP] 2.5.1.1, value and value-array).
use Rattle.std.specs.Prelude.{ℕ, Bool, true, false, List, [], ◌∷◌, ◌++◌, codes, Result, Ok, Err, if◌then◌else◌}
use Rattle.std.specs.Str.{is_utf8}
use Rattle.hex.specs.Hex.{decode_of}
use Rattle.hex.specs.declared.error.FromHexError.{FromHexError}
use Rattle.sd_sid.specs.Sid.{SidValue}
use Rattle.sd_text.specs.Finding.{behind_part, find}
use Rattle.sd_text.specs.Grammar.{begins, word}
use Rattle.sd_text.specs.Sid.{sid}
use Rattle.sd_text.specs.declared.alias.Aliases.{Aliases}
use Rattle.sd_text.specs.declared.fault.TextFault.TheVariants.{Syntax}
use Rattle.sd_data.specs.Reading.{utf16_of}
use Rattle.sd_condition.specs.declared.value.Value.{Value}
use Rattle.sd_condition.specs.declared.value.Value.TheVariants as values
use Rattle.sd_condition_parse.specs.Integer.{integer}
use Rattle.sd_condition_parse.specs.Outcome.{Parser, found, choose, steps, ◌>>=◌}
use Rattle.sd_condition_parse.specs.Run.{run, space}
use Rattle.sd_condition_parse.specs.declared.run.Class.TheVariants.{Unquoted, Digit}
use Rattle.sd_condition_parse.specs.declared.value.Item.{Item}
use Rattle.sd_condition_parse.specs.declared.value.Item.TheVariants.{Any, OnlySid}

-- ---- texts (string-value): what is between quotes, which have no escape

abbrev pub unquoted : Parser (List ℕ)
unquoted text = behind_part (run Unquoted text)
    (λ bytes rest. if is_utf8 bytes then Ok (utf16_of bytes, rest) else Err (Syntax, text))

unfoldable pub quoted : Parser (List ℕ)
quoted = do
  u ← find (word (codes "\""))
  units ← unquoted
  v ← find (word (codes "\""))
  found units

-- ---- octets (octet-string-value): after `#` all hexadecimal digits, two for each

abbrev pub even_digits : Result (List ℕ) FromHexError → Parser (List ℕ)
even_digits (Ok octets) text = Ok (octets, text)
even_digits (Err e) text = Err (Syntax, text)

unfoldable pub octets : Parser (List ℕ)
octets = do
  u ← find (word (codes "#"))
  digits ← run Digit
  even_digits (decode_of digits)

-- ---- SIDs (literal-SID)

unfoldable pub literal_sid : Aliases → Parser SidValue
literal_sid known = do
  u ← find (word (codes "SID("))
  s ← find (sid known)
  v ← find (word (codes ")"))
  found s

-- ---- values

unfoldable pub value : Aliases → Parser Value
value known =
    choose (λ text. begins text (codes "\"")) (quoted >>= λ units. found (values.Text units))
    (choose (λ text. begins text (codes "#")) (octets >>= λ list. found (values.Octets list))
    (choose (λ text. begins text (codes "SID(")) (literal_sid known >>= λ s. found (values.Sid s))
    (integer >>= λ i. found (values.Integer i))))

-- ---- lists: values between braces, with a comma between any two

-- what may stand in the list
abbrev pub item : Item → Aliases → Parser Value
item Any known = value known
item OnlySid known = literal_sid known >>= λ s. found (values.Sid s)

-- a comma, after which another value follows, or the closing brace
unfoldable pub item_end : Parser Bool
item_end = choose (λ text. begins text (codes ",")) (find (word (codes ",")) >>= λ u. space >>= λ v. found true)
    (find (word (codes "}")) >>= λ u. found false)

-- a value, and whether another one follows
unfoldable pub item_step : Item → Aliases → List Value → Parser (Bool × List Value)
item_step kind known before = do
  v ← item kind known
  u ← space
  more ← item_end
  found (more, before ++ v ∷ [])

unfoldable pub list : Item → Aliases → Parser (List Value)
list kind known = do
  u ← find (word (codes "{"))
  v ← space
  choose (λ text. begins text (codes "}")) (find (word (codes "}")) >>= λ w. found [])
      (steps (item_step kind known) [])
