-- Strings of JSON (RFC 8259, section 7), and members of its objects.
use Rattle.std.specs.Prelude.{ℕ, ◌+◌, ◌/◌, ◌%◌, ◌==◌, nat_le, nat_lt, Bool, not, ◌&&◌, if◌then◌else◌}
use Rattle.std.specs.Prelude.{List, [], ◌∷◌, ◌++◌, codes, flat_map}
use Rattle.std.specs.Str.{is_utf8}

-- ---- strings

abbrev pub hex_digit : ℕ → ℕ
hex_digit n = if nat_lt n 10 then 48 + n else 87 + n

abbrev pub hex_digits : ℕ → List ℕ
hex_digits b = hex_digit (b / 16) ∷ hex_digit (b % 16) ∷ []

-- a byte of a string: quotes, backslashes and control characters are escaped, and so are bytes from 0x80 on where the
-- string isn't UTF-8, each by the surrogate that other programs have for such a byte
abbrev pub escaped : Bool → ℕ → List ℕ
escaped utf8 b =
    if b == 34 then codes "\\\"" else (if b == 92 then codes "\\\\"
    else (if nat_lt b 32 then codes "\\u00" ++ hex_digits b
    else (if nat_le 128 b && not utf8 then codes "\\udc" ++ hex_digits b
    else b ∷ [])))

unfoldable pub json_string : List ℕ → List ℕ
json_string text = codes "\"" ++ flat_map (escaped (is_utf8 text)) text ++ codes "\""

-- ---- members of an object

-- a member with this name, whose value is this text of JSON; one after another is parted by a comma
abbrev pub named : List ℕ → List ℕ → List ℕ
named name value = codes "\"" ++ name ++ codes "\":" ++ value

abbrev pub then_named : List ℕ → List ℕ → List ℕ
then_named name value = codes "," ++ named name value

-- strings, parted by commas
abbrev pub strings : List (List ℕ) → List ℕ
strings [] = []
strings (last ∷ []) = json_string last
strings (word ∷ next ∷ words) = json_string word ++ codes "," ++ strings (next ∷ words)
