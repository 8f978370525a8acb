-- Where more bits are granted, a request that was granted is granted still, with all that it had.
use Rattle.std.proofs.Common.{◌≡◌, ℕ, ◌<◌, Bool, true, false, not, ◌&&◌, ◌||◌, ◌==◌, sym, ◌∙◌, ap, arith, inl, inr, eqb-true, eq-eqb}
use Rattle.sd_check.proofs.Cited.{false≢true, cases_Bool, bit_at-zero, holds, mask_of, MappingValue, mapped, holds_place, mask_of-alike, judged, missing_of, joined_with, without_maximum, Granted}
use Rattle.sd_check.proofs.LowMasks.{no_places}

-- ---- nothing is missing where more is granted

pub nothing_missing : (now before : ℕ → Bool) (q : ℕ) → ((b : ℕ) → now b ≡ true → before b ≡ true)
    → (missing_of now q == 0) ≡ true → (missing_of before q == 0) ≡ true
nothing_missing now before q more h =
    let none = eqb-true (missing_of now q) 0 h in
    eq-eqb (missing_of before q) 0
    (mask_of-alike (λ b. holds q b && not (before b)) (λ b. false) 32
    (λ b low. grind (arith, more b, holds_place (λ k. holds q k && not (now k)) b low, ap (λ n. holds n b) none, ap (λ n. n == 1) (bit_at-zero b)))
    ∙ no_places)

-- ---- nor is there nothing

pub still_something : (p : ℕ → Bool) (more : ℕ) → ((b : ℕ) → b < 32 → p b ≡ true → holds more b ≡ true)
    → (mask_of p 32 == 0) ≡ false → (more == 0) ≡ false
still_something p more kept some = elim (cases_Bool (more == 0)) [
  | inl none ↦ absurd (false≢true (sym some ∙ eq-eqb (mask_of p 32) 0 (mask_of-alike p (λ b. false) 32 (λ b low.
      grind (arith, kept b low, ap (λ n. holds n b) (eqb-true more 0 none), ap (λ n. n == 1) (bit_at-zero b))) ∙ no_places)))
  | inr there ↦ there
]

-- with what was asked for, more of what MAXIMUM_ALLOWED takes in
pub joined_more : (q most more : ℕ) → ((b : ℕ) → b < 32 → holds most b ≡ true → holds more b ≡ true)
    → (b : ℕ) → b < 32 → holds (joined_with q most) b ≡ true → holds (joined_with q more) b ≡ true
joined_more q most more kept b low h =
    grind (arith, h, kept b low, holds_place (λ k. holds q k || holds more k) b low, holds_place (λ k. holds q k || holds most k) b low)

-- ---- the cases of a verdict

pub judged_with_more : (g : MappingValue) (now before : ℕ → Bool) (most more r m : ℕ)
    → ((b : ℕ) → now b ≡ true → before b ≡ true)
    → ((b : ℕ) → b < 32 → holds most b ≡ true → holds more b ≡ true)
    → judged g now most r ≡ Granted m
    → (all : ℕ) × ((judged g before more r ≡ Granted all) × ((b : ℕ) → b < 32 → holds m b ≡ true → holds all b ≡ true))
judged_with_more g now before most more r m bits kept e =
    let q = mapped g (without_maximum r) in
    let whole = joined_with q more in
    let still = nothing_missing now before q bits in
    elim (cases_Bool (holds r 25)) [
      | inl maximum ↦
          let some = still_something (λ b. holds q b || holds most b) whole (λ b low h. joined_more q most more kept b low (holds_place (λ k. holds q k || holds most k) b low ∙ h)) in
          let all : m ≡ joined_with q most = grind (arith, maximum, e) in
          (whole, (grind (arith, maximum, e, still, some), λ b low h. joined_more q most more kept b low (sym (ap (λ t. holds t b) all) ∙ h)))
      | inr plain ↦
          let same : m ≡ q = grind (arith, plain, e) in
          (q, (grind (arith, plain, e, still), λ b low h. sym (ap (λ t. holds t b) same) ∙ h))
    ]
