-- Requests for some of the object's own rights and the standard ones alone, the places below 21.
use Rattle.std.proofs.Common.{◌≡◌, ℕ, ◌^◌, ◌<◌, ◌≤◌, Bool, true, false, ◌&&◌, not, ◌==◌, inl, inr, refl, sym, ◌∙◌, ap, arith}
use Rattle.sd_check.proofs.Cited.{agree_below_at, cases_lt, lt-ltb, nat_tests, bit_at_above, and-true, or-false, holds, MappingValue, mapped, is_mapped, is_mask_of, mask_of-alike, reserved_of, without_maximum, answered, judged, missing_of, plain_verdict, wanted_bits}
use Rattle.sd_sid.specs.Mask.{mask_of}

-- such a mask has no place from 21 on
pub high_place : (q b : ℕ) → q < 2 ^ 21 → 21 ≤ b → holds q b ≡ false
high_place q b small high = ap (λ n. n == 1) (bit_at_above q 21 b small high)

pub no_places : mask_of (λ b. false) 32 ≡ 0
unfolding mask_of
no_places = refl

nothing_reserved : (q : ℕ) → q < 2 ^ 21 → reserved_of q ≡ 0
nothing_reserved q small = mask_of-alike _ (λ b. false) 32 (λ b h.
    grind (arith, nat_tests, cases_lt b 21, high_place q b small, agree_below_at (holds 0x0CE00000) (λ k. false) 21 b refl)) ∙ no_places

-- what isn't MAXIMUM_ALLOWED is kept, and a mask without generic rights is mapped to itself
kept : (q b : ℕ) → q < 2 ^ 21 → holds q b ≡ (holds q b && not (holds 0x02000000 b))
kept q b small = grind (arith, nat_tests, cases_lt b 21, high_place q b small, agree_below_at (holds 0x02000000) (λ k. false) 21 b refl)

itself : (g : MappingValue) (q b : ℕ) → q < 2 ^ 28 → holds q b ≡ is_mapped g q b
itself g q b small =
    let generic : (k : ℕ) → 28 ≤ k → holds q k ≡ false = λ k high. ap (λ n. n == 1) (bit_at_above q 28 k small high) in
    rw (generic 31 (omega arith), generic 30 (omega arith), generic 29 (omega arith), generic 28 (omega arith))
    (elim (cases_lt b 28) [
      | inl low ↦ simp (lt-ltb b 28 low, and-true, or-false) refl
      | inr high ↦ rw (generic b high) refl
    ])

pub mapped_is_itself : (g : MappingValue) (q : ℕ) → q < 2 ^ 28 → mapped g q ≡ q
mapped_is_itself g q small = sym (is_mask_of (is_mapped g q) q (omega arith) (λ b h. itself g q b small))

mapped_to_itself : (g : MappingValue) (q : ℕ) → q < 2 ^ 21 → mapped g (without_maximum q) ≡ q
mapped_to_itself g q small =
    ap (mapped g) (sym (is_mask_of _ q (omega arith) (λ b h. kept q b small))) ∙ mapped_is_itself g q (omega arith)

-- the verdict on such a request has nothing reserved, and nothing mapped
pub judged_low : (g : MappingValue) (p : ℕ → Bool) (most q : ℕ) → (q == 0) ≡ false → q < 2 ^ 21 → judged g p most q ≡ plain_verdict q (missing_of p q)
judged_low g p most q some small =
    rw (some, nothing_reserved q small, high_place q 25 small (omega arith), mapped_to_itself g q small, some) refl

-- a list is asked for no other bits
pub wanted_low : (g : MappingValue) (q : ℕ) → q < 2 ^ 21 → wanted_bits g q ≡ q
wanted_low g q small = rw (high_place q 25 small (omega arith), mapped_to_itself g q small) refl

-- a request that isn't empty and has no reserved bit
pub judged_open : (g : MappingValue) (p : ℕ → Bool) (most r : ℕ) → (r == 0) ≡ false → (reserved_of r == 0) ≡ true
    → judged g p most r ≡ answered p most r (mapped g (without_maximum r))
judged_open g p most r some none = rw (some, none) refl
