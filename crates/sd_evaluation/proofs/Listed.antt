-- The value at a place of a list that is mapped.
use Rattle.std.proofs.Common.{List, add-one, ap, drop, get_or, length, map, suc, sym, ℕ, ◌+◌, ◌<◌, ◌∙◌, ◌∷◌, ◌≡◌}
use Rattle.std.proofs.Math.Seq.{drop-cons}
use Rattle.std.proofs.lemmas.List.{drop-map, length-map}

pub mapped_at : {A B : Type 0} (f : A → B) (xs : List A) (i : ℕ) (x : A) → i < length xs → x ≡ get_or xs i x
    → drop i (map f xs) ≡ f x ∷ drop (i + 1) (map f xs)
mapped_at f xs i x h e =
    drop-map f i xs
    ∙ ap (map f) (drop-cons xs i x h)
    ∙ ap (λ y. f y ∷ map f (drop (suc i) xs)) (sym e)
    ∙ ap (λ rest. f x ∷ rest) (sym (drop-map f (suc i) xs))
    ∙ ap (λ n. f x ∷ drop n (map f xs)) (sym (add-one i))

pub mapped_length : {A B : Type 0} (f : A → B) (xs : List A) → length (map f xs) ≡ length xs
mapped_length f xs = length-map xs f
