-- Lists of which elements go and the others are mapped.
use Rattle.std.proofs.Common.{◌≡◌, Bool, false, not, List, [], ◌∷◌, ap, refl, ◌∙◌, inl, inr}
use Rattle.std.specs.Prelude.{filter, map}
use Rattle.std.specs.List.{list_any}
use Rattle.std.proofs.lemmas.Bool.{cases_Bool, or_parts}

-- the elements that stay, each mapped
abbrev pub kept : {X : Type 0} → (X → X) → (X → Bool) → List X → List X
kept f goes xs = map f (filter (λ x. not (goes x)) xs)

-- an element that stays as it is
pub record Stands {X : Type 0} (f : X → X) (goes : X → Bool) (x : X) : Type 0 where
  pub stays : goes x ≡ false
  pub is : f x ≡ x

-- where all stay as they are, so does the list
pub all_stand : {X : Type 0} (f : X → X) (goes test : X → Bool) → ((x : X) → test x ≡ false → Stands f goes x)
    → (xs : List X) → list_any test xs ≡ false → kept f goes xs ≡ xs
all_stand f goes test stands [] none = refl
all_stand f goes test stands (x ∷ xs) none =
    let parts = or_parts (test x) (list_any test xs) none in
    let s = stands x parts.0 in
    let rest : kept f goes xs ≡ xs = all_stand f goes test stands xs parts.1 in
    rw s.stays (ap (λ y. y ∷ kept f goes xs) s.is ∙ ap (λ ys. x ∷ ys) rest)

-- none of what stays passes the test, if no element does that stays
pub none_left : {X : Type 0} (f : X → X) (goes test : X → Bool) → ((x : X) → goes x ≡ false → test (f x) ≡ false)
    → (xs : List X) → list_any test (kept f goes xs) ≡ false
none_left f goes test fails [] = refl
none_left f goes test fails (x ∷ xs) = elim (cases_Bool (goes x)) [
  | inl leaves ↦ rw leaves (none_left f goes test fails xs)
  | inr stays ↦ rw stays (rw (fails x stays) (none_left f goes test fails xs))
]

-- no element passes a test that none passes
pub none_passes : {X : Type 0} (xs : List X) → list_any (λ x. false) xs ≡ false
none_passes [] = refl
none_passes (x ∷ xs) = none_passes xs

-- where each is mapped back, so is the list
pub twice : {X : Type 0} (f g : X → X) (goes gone test : X → Bool) → ((x : X) → test x ≡ false → Stands (λ y. g (f y)) goes x)
    → ((x : X) → gone x ≡ false) → (xs : List X) → list_any test xs ≡ false → kept g gone (kept f goes xs) ≡ xs
twice f g goes gone test stands stay [] none = refl
twice f g goes gone test stands stay (x ∷ xs) none =
    let parts = or_parts (test x) (list_any test xs) none in
    let s = stands x parts.0 in
    let rest : kept g gone (kept f goes xs) ≡ xs = twice f g goes gone test stands stay xs parts.1 in
    rw s.stays (rw (stay (f x)) (ap (λ y. y ∷ kept g gone (kept f goes xs)) s.is ∙ ap (λ ys. x ∷ ys) rest))
