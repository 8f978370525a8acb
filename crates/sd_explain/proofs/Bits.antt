-- Masks that are gathered place by place.
use Rattle.sd_explain.proofs.Cited.{Bool, arith, bit_at-pow_other, bit_at-pow_same, cases_eq, cond, false, holds, holds-mask_of, holds_when, is_mask_of, mask_of, mask_of-alike, mask_of-lt, nat_lt, nat_tests, one-mul, pow_below, pow_mono, refl, sym, ℕ, ◌%◌, ◌&&◌, ◌*◌, ◌+◌, ◌<◌, ◌^◌, ◌||◌, ◌∙◌, ◌≡◌, ◌≤◌}

-- the mask of the places below n, as a mask of 32 places
narrow : (p : ℕ → Bool) (n : ℕ) → n ≤ 32 → mask_of p n ≡ mask_of (λ b. nat_lt b n && p b) 32
narrow p n few =
    let small : 2 ^ n ≤ 2 ^ 32 = pow_mono few in
    is_mask_of (λ b. nat_lt b n && p b) (mask_of p n) (let low : mask_of p n < 2 ^ n = mask_of-lt p n in omega arith) (λ b h. holds-mask_of p n b)

one_place : (k : ℕ) → k < 32 → 1 * 2 ^ k % 4294967296 ≡ 2 ^ k
one_place k low = let small : 2 ^ k < 2 ^ 32 = pow_below k 32 low in rw one-mul (omega arith)

-- the places below k with a test, and the place k with its own, are those below k + 1
place_more : (p : ℕ → Bool) (k b : ℕ) → ((nat_lt b k && p b) || (p k && holds (2 ^ k) b)) ≡ (nat_lt b (k + 1) && p b)
place_more p k b = grind (arith, nat_tests, cases_eq b k, bit_at-pow_same k, bit_at-pow_other k b)

-- one more place of a mask
pub one_more : (p : ℕ → Bool) (k bits one more : ℕ) (test : Bool) → k < 32
    → bits ≡ mask_of p k → test ≡ p k → one ≡ cond test (1 * 2 ^ k % 4294967296) 0
    → more ≡ mask_of (λ b. holds bits b || holds one b) 32 → more ≡ mask_of p (k + 1)
one_more p k bits one more test low is_bits is_test is_one is_more =
    is_more
    ∙ mask_of-alike _ (λ b. nat_lt b (k + 1) && p b) 32 (λ b h.
    grind (arith, is_bits, is_test, is_one, one_place k low, holds-mask_of p k b, holds_when (p k) (2 ^ k) b, place_more p k b))
    ∙ sym (narrow p (k + 1) (omega arith))

-- and one that isn't in the mask
pub no_more : (p : ℕ → Bool) (k bits : ℕ) → k < 32 → bits ≡ mask_of p k → p k ≡ false → bits ≡ mask_of p (k + 1)
no_more p k bits low is_bits none =
    is_bits ∙ narrow p k (omega arith) ∙ mask_of-alike _ (λ b. nat_lt b (k + 1) && p b) 32 (λ b h. grind (arith, nat_tests, cases_eq b k, none))
    ∙ sym (narrow p (k + 1) (omega arith))

-- a mask is that of its own places
pub own_places : (q : ℕ) → q < 2 ^ 32 → q ≡ mask_of (holds q) 32
own_places q small = is_mask_of (holds q) q small (λ b h. refl)
