-- Lines that are answered one after the other.
use Rattle.sd_lines.proofs.Cited.{AreAnswered, List, [], ap, append_assoc, ℕ, ◌++◌, ◌∷◌}

-- and then more lines
pub joined : {State : Type 0} (Next : State → List ℕ → List ℕ → State → Type 0) (old between last : State) (front back : List (List ℕ)) (p q : List ℕ)
    → AreAnswered Next old front p between → AreAnswered Next between back q last → AreAnswered Next old (front ++ back) (p ++ q) last
joined Next old between last [] back p q (none, same) more = rw (none, ← same) more
joined Next old between last (line ∷ front) back p q (first, next, rest, is, answered, whole) more =
    (first, next, rest ++ q, is, joined Next next between last front back rest q answered more, rw whole (append_assoc first rest q))

-- each answer is one to what the states are seen as
pub seen_as : {A B : Type 0} (Next : A → List ℕ → List ℕ → A → Type 0) (Other : B → List ℕ → List ℕ → B → Type 0) (seen : A → B)
    → ((old new : A) (line printed : List ℕ) → Next old line printed new → Other (seen old) line printed (seen new))
    → (old last : A) (lines : List (List ℕ)) (printed : List ℕ) → AreAnswered Next old lines printed last → AreAnswered Other (seen old) lines printed (seen last)
seen_as Next Other seen is old last [] printed (none, same) = (none, ap seen same)
seen_as Next Other seen is old last (line ∷ lines) printed (first, between, rest, next, more, whole) =
    (first, seen between, rest, is old between line first next, seen_as Next Other seen is between last lines rest more, whole)
