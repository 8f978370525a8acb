-- Letters that a text begins with.
use Rattle.sd_text.proofs.Cited.{Bool, List, [], add-one, and-true, ap, arith, begins, drop, drop-cons, drop_all, eq_ignore_ascii_case, false, get_or, inl, inr, length, ne_eqb, refl, suc, sym, true, ℕ, ◌&&◌, ◌+◌, ◌<◌, ◌==◌, ◌∷◌, ◌≡◌, ◌≤◌}
use Rattle.sd_text.proofs.Parts.{went, begins_fits}

pub begins_nothing : (text letters : List ℕ) → length letters ≡ 0 → begins text letters ≡ false
begins_nothing text letters none =
    elim (went (begins text letters)) [ inl h ↦ absurd (let fits = begins_fits text letters h in omega arith) | inr h ↦ h ]

pub begins_short : (text letters : List ℕ) → length text < length letters → begins text letters ≡ false
begins_short text letters short =
    elim (went (begins text letters)) [ inl h ↦ absurd (let fits = begins_fits text letters h in omega arith) | inr h ↦ h ]

-- the text begins with these letters, or there are none
abbrev pub matches : List ℕ → List ℕ → Bool
matches [] text = true
matches (l ∷ letters) [] = false
matches (l ∷ letters) (c ∷ text) = eq_ignore_ascii_case c l && matches letters text

pub begins_matches : (text letters : List ℕ) → (length letters == 0) ≡ false → begins text letters ≡ matches letters text
begins_matches text [] some = absurd cc
begins_matches [] (l ∷ letters) some = refl
begins_matches (c ∷ text) (l ∷ []) some = sym (and-true (eq_ignore_ascii_case c l))
begins_matches (c ∷ text) (l ∷ m ∷ letters) some = ap (λ b. eq_ignore_ascii_case c l && b) (begins_matches text (m ∷ letters) (ne_eqb (suc (length letters)) 0 (omega arith)))

-- one letter, and those behind it
pub matches_at : (text letters : List ℕ) (i : ℕ) → i < length letters → length letters ≤ length text → matches (drop i letters) (drop i text) ≡ (eq_ignore_ascii_case (get_or text i 0) (get_or letters i 0) && matches (drop (i + 1) letters) (drop (i + 1) text))
matches_at text letters i lt le = rw (drop-cons text i 0 (omega arith), drop-cons letters i 0 lt, add-one) refl

-- no letter is left
pub matches_end : (text letters : List ℕ) (i : ℕ) → length letters ≤ i → matches (drop i letters) (drop i text) ≡ true
matches_end text letters i le = rw (drop_all i letters le) refl
