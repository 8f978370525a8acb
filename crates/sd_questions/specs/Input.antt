-- Which inputs are in UTF-16, the text without its end, and which texts are blank.
use Rattle.std.specs.Prelude.{ℕ, ◌-◌, ◌==◌, Bool, false, ◌&&◌, ◌||◌, if◌then◌else◌, List, [], ◌∷◌, length, take}
use Rattle.std.specs.Prelude.{slice_index}
use Rattle.std.specs.List.{list_all}
use Rattle.std.specs.Str.Lines.{strip_carriage_return}

-- a byte order mark says UTF-16 (RFC 2781)
abbrev pub is_utf16 : List ℕ → Bool
is_utf16 [] = false
is_utf16 (a ∷ []) = false
is_utf16 (a ∷ b ∷ rest) = (a == 255 && b == 254) || (a == 254 && b == 255)

-- the text without the line feed at its end, and one carriage return before that
abbrev pub without_end : List ℕ → List ℕ
without_end text =
    if slice_index text (length text - 1) == 10 then strip_carriage_return (take (length text - 1) text) else text

-- nothing is in the text but tabs, ends of lines and spaces
abbrev pub is_blank : List ℕ → Bool
is_blank text = list_all (λ b. b == 9 || b == 10 || b == 13 || b == 32) text
