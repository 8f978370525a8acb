-- What a descriptor grants in a pass, as masks, and whom it speaks of.
use Rattle.sd_analysis.proofs.Cited.{Bool, agree_below_at, and_parts, ap, arith, bit_at_above, cases_lt, cond, false, false≢true, holds, holds-mask_of, holds_place, holds_when, inl, inr, mask_of, not, refl, sym, true, ℕ, ◌&&◌, ◌<◌, ◌==◌, ◌||◌, ◌∙◌, ◌≡◌}
use Rattle.sd_analysis.proofs.Reports.{none_held}

pub owners_held : (is limited t u : Bool) (m b : ℕ) → m ≡ cond (is && not limited) 0x00060000 0 → is ≡ t → limited ≡ u → b < 21
    → holds m b ≡ ((t && not u) && (b == 17 || b == 18))
owners_held is limited t u m b is_m is_t is_u low = grind (arith, holds_when (is && not limited) 0x00060000 b, agree_below_at (holds 0x00060000) (λ k. k == 17 || k == 18) 32 b refl (omega arith))

pub low_held : (m b : ℕ) → holds (mask_of (λ k. holds m k && holds 0x001FFFFF k) 32) b ≡ true → b < 21
low_held m b h = elim (cases_lt b 21) [
  | inl low ↦ low
  | inr high ↦
      let outer = and_parts _ (holds m b && holds 0x001FFFFF b) (sym (holds-mask_of (λ k. holds m k && holds 0x001FFFFF k) 32 b) ∙ h) in
      let in_rights = (and_parts (holds m b) (holds 0x001FFFFF b) outer.1).1 in
      absurd (false≢true (sym (ap (λ n. n == 1) (bit_at_above 0x001FFFFF 21 b (omega arith) high)) ∙ in_rights))
]

-- the mask of what meets a demand
module _ (granted listed owned one two rest low_rest worth among b : ℕ) (g l o unlisted unowned : Bool)
    (is_listed : listed ≡ cond unlisted one 0) (is_rest : rest ≡ mask_of (λ k. holds granted k && not (holds listed k)) 32)
    (is_low : low_rest ≡ mask_of (λ k. holds rest k && holds among k) 32) (is : worth ≡ mask_of (λ k. holds low_rest k && holds 0x001FFFFF k) 32)
    (low : b < 21) (hg : holds granted b ≡ g) (hl : holds one b ≡ l) where
  worth_held : holds worth b ≡ ((g && not (unlisted && l)) && holds among b)
  worth_held = grind (
    arith,
    holds_place (λ k. holds low_rest k && holds 0x001FFFFF k) b (omega arith),
    agree_below_at (holds 0x001FFFFF) (λ k. true) 21 b refl low,
    holds_place (λ k. holds rest k && holds among k) b (omega arith),
    holds_place (λ k. holds granted k && not (holds listed k)) b (omega arith),
    holds_when unlisted one b,
  )

  -- none is worth it
  pub none_met : (worth == 0) ≡ true → holds worth b ≡ ((g && (not (unlisted && l) && not (unowned && o))) && holds among b)
  none_met none = grind (arith, worth_held, none_held)

  pub met_held : (result : ℕ) → owned ≡ cond unowned two 0 → result ≡ mask_of (λ k. holds worth k && not (holds owned k)) 32 → holds two b ≡ o
      → holds result b ≡ ((g && (not (unlisted && l) && not (unowned && o))) && holds among b)
  met_held result is_owned is_result ho = grind (arith, worth_held, holds_place, holds_when)

-- the bits that lists leave in question
pub in_question : (granted listed rest bits one among b : ℕ) (a l by_owner unlisted : Bool) → b < 21
    → holds granted b ≡ (by_owner || a) → listed ≡ cond unlisted one 0 → holds one b ≡ l
    → rest ≡ mask_of (λ k. holds granted k && not (holds listed k)) 32 → bits ≡ mask_of (λ k. holds rest k && holds among k) 32
    → holds bits b ≡ (((by_owner || a) && not (unlisted && l)) && holds among b)
in_question granted listed rest bits one among b a l by_owner unlisted low hg is_listed hl is_rest is = grind (
  arith,
  holds_place (λ k. holds rest k && holds among k) b (omega arith),
  holds_place (λ k. holds granted k && not (holds listed k)) b (omega arith),
  holds_when unlisted one b,
)

-- where none is left, no SIDs meet the demand for one
pub none_in_question : (bits among b : ℕ) (a l grants denies owned owns by_owner unlisted unowned : Bool)
    → holds bits b ≡ (((by_owner || a) && not (unlisted && l)) && holds among b) → (bits == 0) ≡ true → a ≡ grants → l ≡ denies
    → (cond by_owner owns grants && (not (unlisted && denies) && not (unowned && owned))) ≡ true → holds among b ≡ false
none_in_question bits among b a l grants denies owned owns by_owner unlisted unowned is none ha hl h = grind (arith, none_held bits b none)
