-- What follows a value in a claim's text: a comma before the next one, or the parenthesis that ends the claim.
use Rattle.std.proofs.Common.{List, ℕ, ◌∷◌}

pub data Closing : Type 0 where
  comma : Closing
  parenthesis : Closing

-- such a text
abbrev pub closed : Closing → List ℕ → List ℕ
closed comma rest = 44 ∷ rest
closed parenthesis rest = 41 ∷ rest
