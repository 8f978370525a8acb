-- Answers of two kinds are two.
use Rattle.sd_script.proofs.Cited.{LineOf, List, [], ap, ℕ, ◌∷◌, ◌≡◌}

abbrev pub first_kind : List LineOf → List ℕ
first_kind [] = []
first_kind (l ∷ ls) = l.kind

pub other_kind : (one other : List LineOf) → (first_kind one ≡ first_kind other → ⊥) → one ≡ other → ⊥
other_kind one other differ same = differ (ap first_kind same)
