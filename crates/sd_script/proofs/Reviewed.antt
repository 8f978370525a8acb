-- The lines of a review, one step after the other.
use Rattle.sd_script.proofs.Cited.{AreTold, LineOf, List, Some, [], append-nil, append_assoc, drop, refl, slice_get, subst, sym, ℕ, ◌++◌, ◌+◌, ◌≡◌}
use Rattle.sd_script.proofs.Dumping.{next_left}

-- the lines so far are those of all but those that are left
abbrev pub AreToldTo : {A : Type 0} → (A → List LineOf → Type 0) → List A → ℕ → List LineOf → Type 0
AreToldTo P xs i told = (rest : List LineOf) → AreTold P (drop i xs) rest → AreTold P xs (told ++ rest)

pub told_next : {A : Type 0} (P : A → List LineOf → Type 0) (xs : List A) (i : ℕ) (x : A) (told one after : List LineOf)
    → AreToldTo P xs i told → Some x ≡ slice_get xs i → P x one → after ≡ told ++ one → AreToldTo P xs (i + 1) after
told_next P xs i x told one after before at first is rest more =
    let from : AreTold P (drop i xs) (one ++ rest) = rw (next_left xs i x at) (one, rest, first, more, refl) in
    subst (λ t. AreTold P xs (t ++ rest)) (sym is) (subst (AreTold P xs) (sym (append_assoc told one rest)) (before (one ++ rest) from))

pub told_all : {A : Type 0} (P : A → List LineOf → Type 0) (xs : List A) (i : ℕ) (told : List LineOf)
    → AreToldTo P xs i told → drop i xs ≡ [] → AreTold P xs told
told_all P xs i told before none =
    subst (AreTold P xs) (append-nil told) (before [] (subst (λ left. AreTold P left []) (sym none) refl))
