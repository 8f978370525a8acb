-- What each of a list gives, one after the other: by one more of them.
use Rattle.std.proofs.Common.{List, [], ap, get_or, length, sym, take, ℕ, ◌+◌, ◌++◌, ◌<◌, ◌∙◌, ◌≡◌}
use Rattle.std.proofs.lemmas.List.{flat_map_more, take_more}
use Rattle.std.specs.List.{flat_map}

pub one_more : {X : Type 0} (f : X → List ℕ) (xs : List X) (i : ℕ) (x : X) (old new : List ℕ) → i < length xs → x ≡ get_or xs i x
    → old ≡ flat_map f (take i xs) → new ≡ old ++ f x → new ≡ flat_map f (take (i + 1) xs)
one_more f xs i x old new low is before more =
    more ∙ ap (λ bs. bs ++ f x) before ∙ ap (λ y. flat_map f (take i xs) ++ f y) is ∙ flat_map_more f [] (take i xs) (get_or xs i x)
    ∙ ap (flat_map f) (sym (take_more xs i x low))
