-- Masks as sets of places: what `mask_of` holds, and when two masks are one.
use Rattle.sd_sid.proofs.Cited.{Bool, and_lt, and_pow, ap, arith, bit_and, bit_at, bit_at-lt, bit_at-zero, bit_at_above, bit_at_and, bit_at_cat_high, bit_at_cat_low, bit_at_not, bit_at_or, bit_or, cases_order, cond, eq-eqb, false, holds, inl, inr, le-ltb, lit<, lt-ltb, max, min, nat_lt, nat_tests, ne_eqb, not, one-mul, or_lt, pow-suc, pow_pos, refl, same_from_bits_below, suc, sym, true, w32, zero, zero-mul, ℕ, ◌&&◌, ◌*◌, ◌+◌, ◌-◌, ◌<◌, ◌==◌, ◌^◌, ◌||◌, ◌∙◌, ◌≡◌, ◌⊎◌}
use Rattle.sd_sid.specs.Mask.{mask_of}

mask_step : (b : Bool) (power rest : ℕ) → rest < power → cond b 1 0 * power + rest < power * 2
mask_step true power rest h = omega (arith, h)
mask_step false power rest h = omega (arith, h)

-- a mask of the places below n is below the n-th power
pub mask_of-lt : (p : ℕ → Bool) (n : ℕ) → mask_of p n < 2 ^ n
unfolding mask_of
mask_of-lt p zero = lit< tt
mask_of-lt p (suc k) = rw pow-suc (mask_step (p k) (2 ^ k) (mask_of p k) (mask_of-lt p k))

lowest_bit : (b : Bool) → holds (cond b 1 0) 0 ≡ b
lowest_bit true = refl
lowest_bit false = refl

bit_small : (b : Bool) → cond b 1 0 < 2 ^ 1
bit_small true = lit< tt
bit_small false = lit< tt

-- a bit set in front of k lower ones: at its own place, below it and above it
holds_here : (b : Bool) (rest k : ℕ) → rest < 2 ^ k → holds (cond b 1 0 * 2 ^ k + rest) k ≡ b
holds_here b rest k small =
    ap (λ n. n == 1) (bit_at_cat_high (cond b 1 0) k rest k small (omega arith) ∙ ap (bit_at (cond b 1 0)) (let e : k - k ≡ 0 = omega arith in e))
    ∙ lowest_bit b

holds_below : (b : Bool) (rest k i : ℕ) → i < k → holds (cond b 1 0 * 2 ^ k + rest) i ≡ holds rest i
holds_below b rest k i low = ap (λ n. n == 1) (bit_at_cat_low (cond b 1 0) k rest i low)

holds_above : (b : Bool) (rest k i : ℕ) → rest < 2 ^ k → k < i → holds (cond b 1 0 * 2 ^ k + rest) i ≡ false
holds_above b rest k i small high =
    ap (λ n. n == 1) (bit_at_cat_high (cond b 1 0) k rest i small (omega arith) ∙ bit_at_above (cond b 1 0) 1 (i - k) (bit_small b) (omega arith))

-- what a mask of places holds
pub holds-mask_of : (p : ℕ → Bool) (n b : ℕ) → holds (mask_of p n) b ≡ (nat_lt b n && p b)
unfolding mask_of
holds-mask_of p zero b =
    ap (λ n. n == 1) (bit_at-zero b) ∙ sym (ap (λ below. below && p b) (le-ltb b 0 (omega arith)))
holds-mask_of p (suc k) b = elim (cases_order b k) [
  | inl same ↦ rw same (holds_here (p k) (mask_of p k) k (mask_of-lt p k) ∙ sym (ap (λ below. below && p k) (lt-ltb k (suc k) (omega arith))))
  | inr other ↦ elim other [
    | inl low ↦ holds_below (p k) (mask_of p k) k b low ∙ holds-mask_of p k b
        ∙ ap (λ below. below && p b) (lt-ltb b k low ∙ sym (lt-ltb b (suc k) (omega arith)))
    | inr high ↦ holds_above (p k) (mask_of p k) k b (mask_of-lt p k) high ∙ sym (ap (λ below. below && p b) (le-ltb b (suc k) (omega arith)))
  ]
]

same_bit : (m n : ℕ) → m < 2 → n < 2 → (m == 1) ≡ (n == 1) → m ≡ n
same_bit zero zero hm hn e = refl
same_bit (suc zero) (suc zero) hm hn e = refl
same_bit m n hm hn e = grind (arith, nat_tests)

-- two masks that hold the same places are one
pub same_masks : (a b : ℕ) → a < 2 ^ 32 → b < 2 ^ 32 → ((k : ℕ) → k < 32 → holds a k ≡ holds b k) → a ≡ b
same_masks a b ha hb same = same_from_bits_below 32 a b ha hb (λ k h. same_bit _ _ (bit_at-lt a k) (bit_at-lt b k) (same k h))

-- a mask is the mask of the places that pass a test, where it holds just those
pub is_mask_of : (p : ℕ → Bool) (a : ℕ) → a < 2 ^ 32 → ((k : ℕ) → k < 32 → holds a k ≡ p k) → a ≡ mask_of p 32
is_mask_of p a ha same =
    same_masks a (mask_of p 32) ha (mask_of-lt p 32)
    (λ k h. same k h ∙ sym (holds-mask_of p 32 k ∙ ap (λ below. below && p k) (lt-ltb k 32 h)))

bit_cases : (m : ℕ) → m < 2 → (m ≡ 0) ⊎ (m ≡ 1)
bit_cases zero h = inl refl
bit_cases (suc zero) h = inr refl
bit_cases (suc (suc m)) h = absurd (omega arith)

-- the tests of one bit
or_tests : (m n : ℕ) → m < 2 → n < 2 → (max m n == 1) ≡ (m == 1 || n == 1)
or_tests m n hm hn = elim (bit_cases m hm) [
  | inl a ↦ elim (bit_cases n hn) [ inl b ↦ rw (a, b) refl | inr b ↦ rw (a, b) refl ]
  | inr a ↦ elim (bit_cases n hn) [ inl b ↦ rw (a, b) refl | inr b ↦ rw (a, b) refl ]
]

and_tests : (m n : ℕ) → m < 2 → n < 2 → (min m n == 1) ≡ (m == 1 && n == 1)
and_tests m n hm hn = elim (bit_cases m hm) [
  | inl a ↦ elim (bit_cases n hn) [ inl b ↦ rw (a, b) refl | inr b ↦ rw (a, b) refl ]
  | inr a ↦ elim (bit_cases n hn) [ inl b ↦ rw (a, b) refl | inr b ↦ rw (a, b) refl ]
]

minus_tests : (m n : ℕ) → m < 2 → n < 2 → (min m (1 - n) == 1) ≡ (m == 1 && not (n == 1))
minus_tests m n hm hn = elim (bit_cases m hm) [
  | inl a ↦ elim (bit_cases n hn) [ inl b ↦ rw (a, b) refl | inr b ↦ rw (a, b) refl ]
  | inr a ↦ elim (bit_cases n hn) [ inl b ↦ rw (a, b) refl | inr b ↦ rw (a, b) refl ]
]

pub holds-or : (a b k : ℕ) → holds (bit_or a b) k ≡ (holds a k || holds b k)
holds-or a b k = rw bit_at_or (or_tests _ _ (bit_at-lt a k) (bit_at-lt b k))

pub holds-and : (a b k : ℕ) → holds (bit_and a b) k ≡ (holds a k && holds b k)
holds-and a b k = rw bit_at_and (and_tests _ _ (bit_at-lt a k) (bit_at-lt b k))

holds-minus : (a b k : ℕ) → b < 2 ^ 32 → k < 32 → holds (bit_and a (0xFFFFFFFF - b)) k ≡ (holds a k && not (holds b k))
holds-minus a b k hb hk =
    ap (λ n. n == 1) (bit_at_and a (0xFFFFFFFF - b) k ∙ ap (min (bit_at a k)) (bit_at_not w32 b k hb hk))
    ∙ minus_tests _ _ (bit_at-lt a k) (bit_at-lt b k)

pub or_is : (a b : ℕ) → a < 2 ^ 32 → b < 2 ^ 32 → bit_or a b ≡ mask_of (λ k. holds a k || holds b k) 32
or_is a b ha hb = is_mask_of (λ k. holds a k || holds b k) (bit_or a b) (or_lt 32 a b ha hb) (λ k h. holds-or a b k)

pub and_is : (a b : ℕ) → a < 2 ^ 32 → b < 2 ^ 32 → bit_and a b ≡ mask_of (λ k. holds a k && holds b k) 32
and_is a b ha hb = is_mask_of (λ k. holds a k && holds b k) (bit_and a b) (and_lt 32 a b ha hb) (λ k h. holds-and a b k)

pub minus_is : (a b : ℕ) → a < 2 ^ 32 → b < 2 ^ 32 → bit_and a (0xFFFFFFFF - b) ≡ mask_of (λ k. holds a k && not (holds b k)) 32
minus_is a b ha hb = is_mask_of (λ k. holds a k && not (holds b k)) (bit_and a (0xFFFFFFFF - b)) (and_lt 32 a (0xFFFFFFFF - b) ha (omega arith))
    (λ k h. holds-minus a b k hb h)

-- what a mask of places holds, at a place of a mask
pub holds_place : (p : ℕ → Bool) (k : ℕ) → k < 32 → holds (mask_of p 32) k ≡ p k
holds_place p k h = holds-mask_of p 32 k ∙ ap (λ below. below && p k) (lt-ltb k 32 h)

-- two tests that agree below n give one mask
pub mask_of-alike : (p q : ℕ → Bool) (n : ℕ) → ((k : ℕ) → k < n → p k ≡ q k) → mask_of p n ≡ mask_of q n
unfolding mask_of
mask_of-alike p q zero h = refl
mask_of-alike p q (suc k) h =
    rw (h k (omega arith), mask_of-alike p q k (λ i below. h i (omega arith))) refl

-- what a mask that is taken under a condition holds
pub holds_when : (b : Bool) (m k : ℕ) → holds (cond b m 0) k ≡ (b && holds m k)
holds_when true m k = refl
holds_when false m k = ap (λ n. n == 1) (bit_at-zero k)

-- the test `n & (1 << k) == 1 << k`
pub flag_test : (n k : ℕ) → (bit_and n (2 ^ k) == 2 ^ k) ≡ holds n k
flag_test n k = rw and_pow (elim (bit_cases (bit_at n k) (bit_at-lt n k)) [
  | inl off ↦ rw (off, zero-mul) (ne_eqb 0 (2 ^ k) (λ e. let h : 0 < 2 ^ k = pow_pos k in absurd (omega arith)))
  | inr on ↦ rw (on, one-mul) (eq-eqb (2 ^ k) (2 ^ k) refl)
])
