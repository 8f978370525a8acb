-- The text around a byte, which a terminal shows below a message that names the byte: the characters of the text, and a
-- caret below the one at the byte.
use Rattle.std.specs.Prelude.{ℕ, zero, suc, ◌-◌, Bool, List, [], ◌++◌, codes, drop, if◌then◌else◌, length, nat_le, take}
use Rattle.std.specs.Fmt.Cut.{floor_char_boundary}
use Rattle.std.specs.List.{repeat}
use Rattle.std.specs.Str.{chars}
use Rattle.sd_commands.specs.Escaped.{escaped_chars}

-- what stands for so many characters that are left out
abbrev pub dots : ℕ → List ℕ
dots zero = []
dots (suc n) = codes ".."

-- the last 30 of the characters before the byte; the first 45 of those from it on
abbrev pub end_shown : List ℕ → List ℕ
end_shown cs = dots (length cs - 30) ++ escaped_chars (drop (length cs - 30) cs)

abbrev pub start_shown : List ℕ → List ℕ
start_shown cs = escaped_chars (take 45 cs) ++ dots (length cs - 45)

-- two lines, each behind the end of the line above it; a character takes one column
abbrev pub lines_of : List ℕ → List ℕ → List ℕ
lines_of before from = codes "\n  " ++ before ++ from
    ++ codes "\n  " ++ repeat (length (chars before)) (codes " ") ++ codes "^"

-- the first byte of the character that this byte is of, or the end of the text
abbrev pub start_of : List ℕ → ℕ → ℕ
start_of text place = if nat_le (length text) place then length text else floor_char_boundary text place

abbrev pub pointer : List ℕ → ℕ → List ℕ
pointer text place = lines_of
    (end_shown (chars (take (start_of text place) text))) (start_shown (chars (drop (start_of text place) text)))

-- the lines that point to a byte of a text, where they are asked for
abbrev pub pointed : Bool → List ℕ → ℕ → List ℕ
pointed points text place = if points then pointer text place else []
