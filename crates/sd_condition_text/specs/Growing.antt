-- Words that are put before a text, one after the other.
use Rattle.std.specs.Prelude.{ℕ, List, reverse}
use Rattle.std.specs.Borrow.{Bor}
use Rattle.std.specs.List.{flat_map}

-- their text: the last is the first
abbrev pub words_text : List (Bor (List ℕ)) → List ℕ
words_text words = flat_map (λ word. word.now) (reverse words)
