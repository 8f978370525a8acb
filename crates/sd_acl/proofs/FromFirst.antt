-- That nothing which fails a test stands behind what passes it: from the first that passes on, all pass.
use Rattle.std.proofs.Common.{◌≡◌, ℕ, ◌+◌, suc, Bool, true, false, not, ◌&&◌, ◌||◌, cond, List, [], ◌∷◌, drop, refl, arith}
use Rattle.std.specs.List.{list_any, list_all, prefix_len}

both_pass : (here rest none : Bool) → rest ≡ not none → (here && rest) ≡ not (not here || none)
both_pass true rest none e = e
both_pass false rest none e = refl

-- all pass where none fails
all_pass : {X : Type 0} (p : X → Bool) (xs : List X) → list_all p xs ≡ not (list_any (λ x. not (p x)) xs)
all_pass p [] = refl
all_pass p (x ∷ xs) = both_pass (p x) (list_all p xs) (list_any (λ y. not (p y)) xs) (all_pass p xs)

behind_here : (here fails behind : Bool) → (fails || behind) ≡ fails → ((not here || fails) || ((here && fails) || behind)) ≡ (not here || fails)
behind_here false fails behind e = refl
behind_here true true behind e = refl
behind_here true false behind e = e

-- what fails behind another fails
fails_behind : {X : Type 0} (F : List X → Bool) (p : X → Bool) → F [] ≡ false → ((x : X) (xs : List X) → F (x ∷ xs) ≡ ((p x && list_any (λ y. not (p y)) xs) || F xs)) → (xs : List X) → (list_any (λ x. not (p x)) xs || F xs) ≡ list_any (λ x. not (p x)) xs
fails_behind F p none step [] = none
fails_behind F p none step (x ∷ xs) = rw (step x xs) (behind_here (p x) (list_any (λ y. not (p y)) xs) (F xs) (fails_behind F p none step xs))

from_here : {X : Type 0} (p : X → Bool) (x : X) (xs : List X) (here : Bool) (n : ℕ) (fails behind : Bool) → p x ≡ here → list_all p xs ≡ not fails → (fails || behind) ≡ fails → list_all p (drop n xs) ≡ not behind → list_all p (drop (cond (not here) (1 + n) 0) (x ∷ xs)) ≡ not ((here && fails) || behind)
from_here p x xs true n fails behind is all covers rest = rw (is, covers) all
from_here p x xs false n fails behind is all covers rest = let e : 1 + n ≡ suc n = omega arith in rw e rest

-- F tells whether something that fails stands behind something that passes
pub rest_passes : {X : Type 0} (F : List X → Bool) (p : X → Bool) → F [] ≡ false → ((x : X) (xs : List X) → F (x ∷ xs) ≡ ((p x && list_any (λ y. not (p y)) xs) || F xs)) → (xs : List X) → list_all p (drop (prefix_len (λ x. not (p x)) xs) xs) ≡ not (F xs)
rest_passes F p none step [] = rw none refl
rest_passes F p none step (x ∷ xs) =
    rw (step x xs) (from_here p x xs (p x) (prefix_len (λ y. not (p y)) xs) (list_any (λ y. not (p y)) xs) (F xs) refl (all_pass p xs) (fails_behind F p none step xs) (rest_passes F p none step xs))
