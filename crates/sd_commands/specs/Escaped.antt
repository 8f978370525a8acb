-- A text as a message shows it: it can neither write a line of its own into a log nor reach a terminal.
use Rattle.std.specs.Prelude.{ℕ, ◌==◌, ◌||◌, ◌&&◌, nat_le, nat_lt, Bool, false, List, ◌++◌, if◌then◌else◌, codes}
use Rattle.std.specs.Fmt.{digits}
use Rattle.std.specs.List.{flat_map}
use Rattle.std.specs.Char.{encode_utf8}
use Rattle.std.specs.Str.{chars}

-- a control character (C0, DEL or C1), or one that separates lines or paragraphs
abbrev pub is_hidden : ℕ → Bool
is_hidden c = nat_lt c 32 || (nat_le 127 c && nat_le c 159) || c == 8232 || c == 8233

-- a character as a message shows it: a hidden one by its number
abbrev pub escaped_char : ℕ → List ℕ
escaped_char c = if is_hidden c then codes "\\u{" ++ digits 16 false c ++ codes "}" else encode_utf8 c

abbrev pub escaped_chars : List ℕ → List ℕ
escaped_chars cs = flat_map escaped_char cs

abbrev pub escaped : List ℕ → List ℕ
escaped text = escaped_chars (chars text)
