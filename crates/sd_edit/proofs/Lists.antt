-- Lists from their last element, and in two parts.
use Rattle.sd_edit.proofs.Cited.{All, List, [], ap, arith, drop, drop-append_seam, length, refl, suc, sym, take, zero, ℕ, ◌++◌, ◌∙◌, ◌∷◌, ◌≡◌, ◌≤◌}

-- what holds of the empty list, and of each list with one more element behind, holds of all
pub by_last : {X : Type 0} (P : List X → Type 0) → P [] → ((xs : List X) (x : X) → P xs → P (xs ++ x ∷ [])) → (xs : List X) → P xs
by_last P none push [] = none
by_last P none push (x ∷ xs) = by_last (λ ys. P (x ∷ ys)) (push [] x none) (λ ys y h. push (x ∷ ys) y h) xs

pub taken : {X : Type 0} (n : ℕ) (xs : List X) → n ≤ length xs → length (take n xs) ≡ n
taken zero xs le = refl
taken (suc n) [] le = absurd (omega arith)
taken (suc n) (x ∷ xs) le = ap suc (taken n xs (omega arith))

-- behind one first part stands the same
pub same_behind : {X : Type 0} (xs a b : List X) → xs ++ a ≡ xs ++ b → a ≡ b
same_behind xs a b e = sym (drop-append_seam xs a) ∙ ap (drop (length xs)) e ∙ drop-append_seam xs b

-- of one element all
pub all_one : {X : Type 0} (P : X → Type 0) (x : X) → P x → All P (x ∷ [])
all_one P x h zero d lt = h
all_one P x h (suc k) d lt = absurd (omega arith)
