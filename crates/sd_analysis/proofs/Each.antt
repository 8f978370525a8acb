-- A loop that adds one element for each of a list.
use Rattle.sd_analysis.proofs.Cited.{All, List, [], ap, ap₂, arith, get_or, length, map, map-append, suc, sym, take, take-suc, zero, ℕ, ◌++◌, ◌+◌, ◌<◌, ◌∙◌, ◌∷◌, ◌≡◌}

pub each_more : {X Y : Type 0} (f : X → Y) (xs : List X) (x : X) (ys : List Y) (i : ℕ) (y : Y) → i < length ys → f x ≡ get_or ys i y
    → map f xs ≡ take i ys → map f (xs ++ (x ∷ [])) ≡ take (i + 1) ys
each_more f xs x ys i y low is before =
    let next : suc i ≡ i + 1 = omega arith in
    map-append f xs (x ∷ []) ∙ ap₂ (λ front last. front ++ (last ∷ [])) before is
    ∙ sym (take-suc ys i y low) ∙ ap (λ n. take n ys) next

pub just : {X : Type 0} (P : X → Type 0) (x : X) → P x → All P (x ∷ [])
just P x is zero d low = is
just P x is (suc k) d low = absurd (omega (arith, low))
