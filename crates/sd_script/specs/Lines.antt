-- The words of a line, and lines that ask for nothing. The lines of a text are those of std's `lines`: each but the
-- last is ended by a line feed, of which a carriage return right before it is a part.
use Rattle.std.specs.Prelude.{ℕ, Bool, true, ◌==◌, ◌||◌, List, [], ◌∷◌, codes, bytes_eq, take}
use Rattle.std.specs.List.{position_or_len, slice_split}

-- the line is empty, or begins with `#`
abbrev pub is_silent : List ℕ → Bool
is_silent [] = true
is_silent (b ∷ bs) = b == 0x23

-- the words, parted by single spaces
abbrev pub words_of : List ℕ → List (List ℕ)
words_of line = slice_split (λ b. b == 0x20) line

-- the bytes before the first space
abbrev pub word_len : List ℕ → ℕ
word_len line = position_or_len (λ b. b == 0x20) line

-- it is answered by several lines: its first word is one of these
abbrev pub wants_lines : List ℕ → Bool
wants_lines line =
    let word = take (word_len line) line in
    bytes_eq word (codes "why") || bytes_eq word (codes "find") || bytes_eq word (codes "list")
    || bytes_eq word (codes "dump") || bytes_eq word (codes "who") || bytes_eq word (codes "review")
