-- The text that bytes of UTF-16 are, in UTF-8 (RFC 2781). It is total: what is no character is a byte that no text in
-- UTF-8 has.
use Rattle.std.specs.Prelude.{ℕ, ◌+◌, ◌*◌, List, [], ◌∷◌, ◌++◌, Option, Some, None}
use Rattle.std.specs.Char.{encode_utf8}
use Rattle.std.specs.Char.Utf16.{utf16_chars}
use Rattle.std.specs.List.{flat_map}
use Rattle.sd_lines.specs.declared.utf16.ByteOrder.{ByteOrder}
use Rattle.sd_lines.specs.declared.utf16.ByteOrder.TheVariants.{Little, Big}
use Rattle.sd_lines.specs.declared.utf16.TheConstants.{NO_CHARACTER}

-- the unit of 16 bits that two bytes are
abbrev pub unit : ByteOrder → ℕ → ℕ → ℕ
unit Little first second = first + 256 * second
unit Big first second = 256 * first + second

-- the units that the bytes are, without a byte over
abbrev pub units_in : ByteOrder → List ℕ → List ℕ
units_in order (a ∷ b ∷ rest) = unit order a b ∷ units_in order rest
units_in order bytes = []

-- a byte over is no character
abbrev pub over_in : List ℕ → List ℕ
over_in [] = []
over_in (a ∷ []) = NO_CHARACTER ∷ []
over_in (a ∷ b ∷ rest) = over_in rest

-- neither is a surrogate without its partner
abbrev pub char_text : Option ℕ → List ℕ
char_text None = NO_CHARACTER ∷ []
char_text (Some c) = encode_utf8 c

abbrev pub utf16_text : ByteOrder → List ℕ → List ℕ
utf16_text order bytes = flat_map char_text (utf16_chars (units_in order bytes)) ++ over_in bytes

-- the text of bytes that end before a character does
abbrev pub unfinished : List ℕ → List ℕ
unfinished [] = []
unfinished (a ∷ b ∷ c ∷ rest) = NO_CHARACTER ∷ NO_CHARACTER ∷ []
unfinished bytes = NO_CHARACTER ∷ []
