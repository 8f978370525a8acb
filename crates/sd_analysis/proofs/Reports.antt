-- What a report keeps as changes come to it.
use Rattle.sd_analysis.proofs.Cited.{All, All-set, Bool, Change, HasABit, IsReport, List, Report, Witness, [], and_from, and_parts, ap, arith, bit_at-zero, cases_Bool, cond, eq-eqb, eqb-true, false, false≢true, get_or, holds, holds-mask_of, holds_place, inl, inr, is_reported, length, list_any, not, not_from_false, or_cases, or_parts, or_right, refl, set, suc, sym, true, zero, ℕ, ◌&&◌, ◌*◌, ◌+◌, ◌<◌, ◌==◌, ◌^◌, ◌||◌, ◌∙◌, ◌∷◌, ◌≡◌}
use Rattle.sd_sid.specs.Mask.{mask_of}

swap_last : (a q r : Bool) → ((a || q) || r) ≡ ((a || r) || q)
swap_last a q r = grind arith

-- where an element is written that passes as it did, or where q does
any_set : {X : Type 0} (p : X → Bool) (q : Bool) (xs : List X) (i : ℕ) (y d : X) → i < length xs → p y ≡ (p (get_or xs i d) || q)
    → list_any p (set xs i y) ≡ (list_any p xs || q)
any_set p q [] i y d low is = absurd (omega arith)
any_set p q (x ∷ xs) zero y d low is = ap (λ a. a || list_any p xs) is ∙ swap_last (p x) q (list_any p xs)
any_set p q (x ∷ xs) (suc i) y d low is = grind (arith, any_set p q xs i y d)

-- of a mask that is made of two
pub joined_holds : (m n b : ℕ) → b < 32 → holds (mask_of (λ k. holds m k || holds n k) 32) b ≡ (holds m b || holds n b)
joined_holds m n b low = holds_place (λ k. holds m k || holds n k) b low

pub in_both : (m n b : ℕ) → holds (mask_of (λ k. holds m k && holds n k) 32) b ≡ true → (holds m b ≡ true) × (holds n b ≡ true)
in_both m n b h = grind (arith, holds-mask_of (λ k. holds m k && holds n k) 32 b)

pub both_in : (m n b : ℕ) → b < 32 → holds m b ≡ true → holds n b ≡ true → holds (mask_of (λ k. holds m k && holds n k) 32) b ≡ true
both_in m n b low hm hn = holds_place (λ k. holds m k && holds n k) b low ∙ and_from _ _ hm hn

pub in_difference : (m n b : ℕ) → holds (mask_of (λ k. holds m k && not (holds n k)) 32) b ≡ true → (holds m b ≡ true) × (not (holds n b) ≡ true)
in_difference m n b h = grind (arith, holds-mask_of (λ k. holds m k && not (holds n k)) 32 b)

pub none_held : (m b : ℕ) → (m == 0) ≡ true → holds m b ≡ false
none_held m b h = ap (λ n. holds n b) (eqb-true m 0 h) ∙ ap (λ n. n == 1) (bit_at-zero b)

-- a mask of some place has one
place_in : (p : ℕ → Bool) (n : ℕ) → (mask_of p n ≡ 0 → ⊥) → (b : ℕ) × ((b < n) × (p b ≡ true))
unfolding mask_of
place_in p zero h = absurd (h refl)
place_in p (suc k) h = elim (cases_Bool (p k)) [
  | inl here ↦ (k, (omega arith, here))
  | inr not_here ↦
      let rest = place_in p k (λ none. h (ap (λ x. cond x 1 0 * 2 ^ k + mask_of p k) not_here ∙ omega (arith, none))) in
      (rest.0, (omega (arith, rest.1.0), rest.1.1))
]

pub has_a_bit : (m n : ℕ) → (mask_of (λ k. holds m k && holds n k) 32 == 0) ≡ false → HasABit (mask_of (λ k. holds m k && holds n k) 32)
has_a_bit m n h =
    let p = λ (k : ℕ). holds m k && holds n k in
    let found = place_in p 32 (λ none. false≢true (sym h ∙ eq-eqb (mask_of p 32) 0 none)) in
    (found.0, (found.1.0, holds_place p found.0 found.1.0 ∙ found.1.1))

pub reported_set : (changes : List Change) (i : ℕ) (mask bits b : ℕ) (w : Witness) (d : Change) → i < length changes
    → mask ≡ mask_of (λ k. holds (get_or changes i d).mask k || holds bits k) 32 → b < 32
    → is_reported (set changes i (record { mask = mask; witness = w })) b ≡ (is_reported changes b || holds bits b)
reported_set changes i mask bits b w d low is small =
    any_set (λ (c : Change). holds c.mask b) (holds bits b) changes i (record { mask = mask; witness = w }) d low
    (ap (λ m. holds m b) is ∙ joined_holds (get_or changes i d).mask bits b small)

abbrev pub IsShownBy : (Witness → ℕ → Bool) → Change → Type 0
IsShownBy shows c = (b : ℕ) → holds c.mask b ≡ true → shows c.witness b ≡ true

pub shown_set : (shows : Witness → ℕ → Bool) (changes : List Change) (i : ℕ) (mask bits : ℕ) (w known : Witness) (d : Change) → i < length changes
    → mask ≡ mask_of (λ k. holds (get_or changes i d).mask k || holds bits k) 32
    → (get_or changes i d).witness ≡ w → known ≡ w
    → All (IsShownBy shows) changes → ((b : ℕ) → holds bits b ≡ true → shows w b ≡ true)
    → All (IsShownBy shows) (set changes i (record { mask = mask; witness = known }))
shown_set shows changes i mask bits w known d low is same same_known all more =
    All-set (IsShownBy shows) changes i (record { mask = mask; witness = known })
    (λ b h.
    let held = and_parts _ (holds (get_or changes i d).mask b || holds bits b)
    (sym (holds-mask_of (λ k. holds (get_or changes i d).mask k || holds bits k) 32 b) ∙ ap (λ m. holds m b) (sym is) ∙ h) in
    ap (λ x. shows x b) same_known ∙ elim (or_cases (holds (get_or changes i d).mask b) (holds bits b) held.1) [
      | inl before ↦ ap (λ x. shows x b) (sym same) ∙ all i d low b before
      | inr new ↦ more b new
    ]) all

pub some_set : (changes : List Change) (i : ℕ) (mask bits : ℕ) (w : Witness) (d : Change) → i < length changes
    → mask ≡ mask_of (λ k. holds (get_or changes i d).mask k || holds bits k) 32
    → HasABit bits
    → All (λ (c : Change). HasABit c.mask) changes
    → All (λ (c : Change). HasABit c.mask) (set changes i (record { mask = mask; witness = w }))
some_set changes i mask bits w d low is some all =
    All-set (λ (c : Change). HasABit c.mask) changes i (record { mask = mask; witness = w })
    (some.0, (some.1.0, ap (λ m. holds m some.0) is ∙ joined_holds (get_or changes i d).mask bits some.0 some.1.0 ∙ or_right _ _ some.1.1)) all

-- ---- a change more

pub report_more : (shows : Witness → ℕ → Bool) (report now : Report) (w : Witness) (mask bits : ℕ)
    → bits ≡ mask_of (λ k. holds mask k && holds report.wanted k) 32
    → ((b : ℕ) → b < 32 → is_reported now.changes.items b ≡ (is_reported report.changes.items b || holds bits b))
    → now.wanted ≡ mask_of (λ k. holds report.wanted k && not (holds bits k)) 32
    → All (IsShownBy shows) now.changes.items
    → All (λ (c : Change). HasABit c.mask) now.changes.items
    → IsReport shows report
    → IsReport shows now
report_more shows report now w mask bits is reported wanted shown some before = record {
  shown = shown;
  some = some;
  left = λ b low none.
      let parts = or_parts (is_reported report.changes.items b) (holds bits b) (sym (reported b (omega arith)) ∙ none) in
      ap (λ m. holds m b) wanted ∙ holds_place (λ k. holds report.wanted k && not (holds bits k)) b (omega arith)
      ∙ and_from _ _ (before.left b low parts.0) (not_from_false _ parts.1);
}

pub wanted_less : (wanted bits now b : ℕ) → now ≡ mask_of (λ k. holds wanted k && not (holds bits k)) 32 → holds now b ≡ true → holds wanted b ≡ true
wanted_less wanted bits now b is h = (in_difference wanted bits b (sym (ap (λ m. holds m b) is) ∙ h)).0

pub wanted_gone : (mask wanted bits now b : ℕ) → bits ≡ mask_of (λ k. holds mask k && holds wanted k) 32
    → now ≡ mask_of (λ k. holds wanted k && not (holds bits k)) 32 → b < 21 → holds mask b ≡ true → holds now b ≡ false
wanted_gone mask wanted bits now b is is_now low h = grind (arith, holds_place (λ k. holds mask k && holds wanted k) b (omega arith), holds_place (λ k. holds wanted k && not (holds bits k)) b (omega arith))

pub none_wanted : (mask wanted bits b : ℕ) → bits ≡ mask_of (λ k. holds mask k && holds wanted k) 32 → (bits == 0) ≡ true
    → b < 21 → holds mask b ≡ true → holds wanted b ≡ false
none_wanted mask wanted bits b is none low h = grind (arith, none_held bits b none, both_in mask wanted b (omega arith))
