-- The name in a claim's text ([MS-DTYP] 2.5.1.1, attribute-data).
use Rattle.std.specs.Prelude.{ℕ, ◌+◌, ◌*◌, Bool, not, ◌&&◌, ◌==◌, nat_lt, List, [], ◌∷◌, ◌++◌, length}
use Rattle.std.specs.Prelude.{take, drop, Option, Some, None, Ok, Err, if◌then◌else◌}
use Rattle.std.specs.Char.{digit_value}
use Rattle.std.specs.Char.Utf16.{has_unpaired_surrogate}
use Rattle.std.specs.List.{flat_map}
use Rattle.sd_text.specs.Finding.{Found}
use Rattle.sd_text.specs.Grammar.{begins}
use Rattle.sd_text.specs.declared.fault.TextFault.TheVariants.{Syntax}
use Rattle.sd_condition_text.specs.Attribute.{is_literal, unit_text}
use Rattle.sd_claim_text.specs.Parser.{Reads, ◌>>=◌, gives, letters_found, mapped, parts_found}
use Rattle.sd_claim_text.specs.Utf16.{utf16_found}

-- ---- as it is printed

-- a name isn't empty, and is UTF-16
abbrev pub is_name : List ℕ → Bool
is_name name = not (length name == 0) && not (has_unpaired_surrogate name)

-- between quotes
unfoldable pub name_text : List ℕ → Option (List ℕ)
name_text name = if is_name name then Some (0x22 ∷ (flat_map unit_text name ++ 0x22 ∷ [])) else None

-- ---- as it is parsed

abbrev pub hex_digit : ℕ → Option ℕ
hex_digit byte = if nat_lt (digit_value byte) 16 then Some (digit_value byte) else None

-- a unit, which isn't zero
abbrev pub not_zero : ℕ → Option ℕ
not_zero unit = if unit == 0 then None else Some unit

abbrev pub unit_of : Option ℕ → Option ℕ → Option ℕ → Option ℕ → Option ℕ
unit_of (Some a) (Some b) (Some c) (Some d) = not_zero (a * 0x1000 + b * 0x100 + c * 0x10 + d)
unit_of a b c d = None

-- the unit of four hexadecimal digits
abbrev pub escaped_unit : List ℕ → Option ℕ
escaped_unit (a ∷ b ∷ c ∷ d ∷ []) = unit_of (hex_digit a) (hex_digit b) (hex_digit c) (hex_digit d)
escaped_unit digits = None

-- the unit of the digits after a percent sign
abbrev pub escape_of : List ℕ → Option ℕ → Found (List ℕ)
escape_of text None = Err (Syntax, text)
escape_of text (Some unit) = Ok (unit ∷ [], drop 5 text)

abbrev pub escape_found : Reads (List ℕ)
escape_found text = escape_of text (escaped_unit (take 4 (drop 1 text)))

-- a character of ASCII as it is, an escape, or characters beyond ASCII
unfoldable pub part_found : Reads (List ℕ)
part_found [] = Err (Syntax, [])
part_found (byte ∷ text) =
    if is_literal byte then Ok (byte ∷ [], text)
    else if byte == 0x25 then escape_found (byte ∷ text)
    else if nat_lt byte 0x80 then Err (Syntax, byte ∷ text)
    else utf16_found (λ each. nat_lt each 0x80) (byte ∷ text)

-- the quote that ends the name isn't here, nor the end of the text
abbrev pub is_within : List ℕ → Bool
is_within text = not (length text == 0) && not (begins text (0x22 ∷ []))

abbrev pub units_found : Reads (List ℕ)
units_found text =
    parts_found is_within (λ units there. mapped (λ more. units ++ more) (part_found there)) (length text) [] text

-- the units, if they are a name
abbrev pub name_of : List ℕ → Reads (List ℕ)
name_of units text = if is_name units then Ok (units, text) else Err (Syntax, text)

unfoldable pub name_found : Reads (List ℕ)
name_found = do
  u ← letters_found (0x22 ∷ [])
  units ← units_found
  name ← name_of units
  v ← letters_found (0x22 ∷ [])
  gives name
