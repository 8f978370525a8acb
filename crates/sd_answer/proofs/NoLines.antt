-- Where there is no line of changes, there are none: a mask with a bit has a lowest one, and its line is there.
use Rattle.sd_answer.proofs.Cited.{All, All-head, BitsForm, Bool, Change, Descendant, HasABit, LineValue, List, Option, Parts, [], ap, arith, bit_at, bit_at-suc, bit_at_lowest, bits_line, cases_order, change_line, changes_lines, eq-eqb, eqb-true, gains_and_losses, holds, if◌then◌else◌, inl, inr, is_lowest, lines_at, map, refl, subst, suc, sym, trailing_zeros, true, under, w32, zero, ℕ, ◌%◌, ◌++◌, ◌/◌, ◌<◌, ◌==◌, ◌∙◌, ◌∷◌, ◌≡◌}
use lib.Count.{count_trailing_zeros}
use Rattle.sd_answer.specs.Lines.{lines_below}

-- ---- the lowest bit

under_less : (d t k : ℕ) → t < k → under d t < suc k
under_less zero t k low = omega (arith, low)
under_less (suc d) t k low = omega arith

lowest_below : (k m b : ℕ) → b < k → holds m b ≡ true → count_trailing_zeros k m < k
unfolding count_trailing_zeros
lowest_below zero m b low has = absurd (omega (arith, low))
lowest_below (suc k) m zero low has = rw (sym (bit_at_lowest m) ∙ eqb-true (bit_at m 0) 1 has) (omega arith)
lowest_below (suc k) m (suc b) low has =
    under_less (m % 2) (count_trailing_zeros k (m / 2)) k (lowest_below k (m / 2) b (omega (arith, low)) (ap (λ n. n == 1) (sym (bit_at-suc m b)) ∙ has))

has_lowest : (m : ℕ) → HasABit m → (c : ℕ) × ((c < 32) × (is_lowest m c ≡ true))
has_lowest m has = (trailing_zeros w32 m, (lowest_below 32 m has.0 has.1.0 has.1.1, eq-eqb _ _ refl))

-- ---- no line, no change

pub parts_empty : {A : Type 0} (xs ys : List A) → xs ++ ys ≡ [] → (xs ≡ []) × (ys ≡ [])
parts_empty [] ys none = (refl, none)
parts_empty (x ∷ xs) ys none = absurd (cc (none))

none_at : (form : BitsForm) (made : Option Descendant) (lines : List LineValue) (n c : ℕ) → c < n → lines_below form made lines n ≡ [] → lines_at form made lines c ≡ []
unfolding lines_below
none_at form made lines zero c low none = absurd (omega (arith, low))
none_at form made lines (suc n) c low none =
    let parts = parts_empty (lines_below form made lines n) (lines_at form made lines n) none in
    elim (cases_order c n) [
      | inl same ↦ subst (λ k. lines_at form made lines k ≡ []) (sym same) parts.1
      | inr other ↦ elim other [ inl below ↦ none_at form made lines n c below parts.0 | inr above ↦ absurd (omega (arith, low, above)) ]
    ]

no_changes : (form : BitsForm) (made : Option Descendant) (old new : Parts) (changes : List Change) → All (λ (c : Change). HasABit c.mask) changes
    → changes_lines form made old new changes ≡ [] → changes ≡ []
no_changes form made old new [] bits none = refl
no_changes form made old new (c ∷ changes) bits none =
    let lowest = has_lowest c.mask (All-head (λ (c : Change). HasABit c.mask) c changes bits) in
    let one = change_line old new c in
    let lines = map (change_line old new) changes in
    let there = none_at form made (one ∷ lines) 32 lowest.0 lowest.1.0 none in
    let first = parts_empty (if is_lowest one.0 lowest.0 then bits_line form made one ∷ [] else []) (lines_at form made lines lowest.0) there in
    let none : bits_line form made one ∷ [] ≡ [] = sym (ap (λ (b : Bool). if b then bits_line form made one ∷ [] else []) lowest.1.1) ∙ first.0 in
    absurd (cc none)

-- where there is no line of gains and losses, there are none
pub no_gain_no_loss : (made : Option Descendant) (old new : Parts) (gained lost : List Change)
    → All (λ (c : Change). HasABit c.mask) gained → All (λ (c : Change). HasABit c.mask) lost
    → gains_and_losses made old new gained lost ≡ [] → (gained ≡ []) × (lost ≡ [])
no_gain_no_loss made old new gained lost gains losses none =
    let parts = parts_empty _ _ none in
    (no_changes _ made old new gained gains parts.0, no_changes _ made old new lost losses parts.1)
