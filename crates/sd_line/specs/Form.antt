-- The words of a form, in which each `{name}` stands for a value.
use Rattle.std.specs.Prelude.{ℕ, ◌==◌, List, [], Option, Some, None}
use Rattle.std.specs.List.{after_first, before_first, slice_split}

-- the words before the first `{`, and what is between it and the next one, and so on
abbrev pub pieces_of : List ℕ → List (List ℕ)
pieces_of form = slice_split (λ b. b == 123) form

abbrev pub pieces_after : Option (List ℕ) → List (List ℕ)
pieces_after None = []
pieces_after (Some form) = pieces_of form

-- a piece after a `{` is a name, and words after the `}`
abbrev pub name_in : List ℕ → List ℕ
name_in piece = before_first (λ b. b == 125) piece

abbrev pub words_in : List ℕ → List ℕ
words_in piece = after_first (λ b. b == 125) piece
