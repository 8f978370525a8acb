-- That the steps of `map` give the mapped mask.
use Rattle.sd_sid.proofs.Cited.{Bool, MappingValue, ap, bit_at_ones, bit_at_ones_above, cases_lt, cond, holds, inl, inr, is_mapped, le-ltb, lt-ltb, mapped, mask_of, nat_lt, sym, ℕ, ◌&&◌, ◌<◌, ◌==◌, ◌||◌, ◌∙◌, ◌≡◌}
use Rattle.sd_sid.proofs.Masks.{holds_place, holds_when, mask_of-alike}

-- 0x0FFFFFFF holds the places that aren't generic
holds_specific : (k : ℕ) → holds 0x0FFFFFFF k ≡ nat_lt k 28
holds_specific k = elim (cases_lt k 28) [
  | inl low ↦ ap (λ n. n == 1) (bit_at_ones 28 k low) ∙ sym (lt-ltb k 28 low)
  | inr high ↦ ap (λ n. n == 1) (bit_at_ones_above 28 k high) ∙ sym (le-ltb k 28 high)
]

-- a union with a mask that is taken under a condition, at a place
joined : (before : ℕ) (test : Bool) (m k : ℕ) → k < 32
    → holds (mask_of (λ b. holds before b || holds (cond test m 0) b) 32) k ≡ (holds before k || (test && holds m k))
joined before test m k h = holds_place (λ b. holds before b || holds (cond test m 0) b) k h ∙ ap (λ t. holds before k || t) (holds_when test m k)

-- the steps of `map`, each by what it ensures
pub mapped_by_steps : (g : MappingValue) (m kept r w x all : ℕ)
    → kept ≡ mask_of (λ b. holds m b && holds 0x0FFFFFFF b) 32
    → r ≡ mask_of (λ b. holds kept b || holds (cond (holds m 31) g.read 0) b) 32
    → w ≡ mask_of (λ b. holds r b || holds (cond (holds m 30) g.write 0) b) 32
    → x ≡ mask_of (λ b. holds w b || holds (cond (holds m 29) g.execute 0) b) 32
    → all ≡ mask_of (λ b. holds x b || holds (cond (holds m 28) g.all 0) b) 32
    → all ≡ mapped g m
mapped_by_steps g m kept r w x all is_kept is_r is_w is_x is_all =
    is_all ∙ mask_of-alike _ (is_mapped g m) 32 (λ k h.
    ap (λ t. holds x k || t) (holds_when (holds m 28) g.all k)
    ∙ ap (λ t. t || (holds m 28 && holds g.all k)) (ap (λ n. holds n k) is_x ∙ joined w (holds m 29) g.execute k h
    ∙ ap (λ t. t || (holds m 29 && holds g.execute k)) (ap (λ n. holds n k) is_w ∙ joined r (holds m 30) g.write k h
    ∙ ap (λ t. t || (holds m 30 && holds g.write k)) (ap (λ n. holds n k) is_r ∙ joined kept (holds m 31) g.read k h
    ∙ ap (λ t. t || (holds m 31 && holds g.read k)) (ap (λ n. holds n k) is_kept ∙ holds_place (λ b. holds m b && holds 0x0FFFFFFF b) k h
    ∙ ap (λ t. holds m k && t) (holds_specific k))))))
