-- A request for one bit below place 21: it is granted where nothing is missing of it.
use Rattle.sd_analysis.proofs.Cited.{BitIsItsCheck, Bool, Denied, Granted, and-false, ap, arith, bit_at-pow_other, bit_at-pow_same, bit_at-zero, cases_eq, cond, cond-false, false, holds, holds_place, inl, inr, is_granted, judged_low, mask_of-alike, missing_of, most, ne_eqb, no_places, not, pow_below, pow_pos, sym, true, true_from_ne_false, ℕ, ◌&&◌, ◌<◌, ◌==◌, ◌^◌, ◌∙◌, ◌≡◌}

none_missing : (p : ℕ → Bool) (b : ℕ) → p b ≡ true → missing_of p (2 ^ b) ≡ 0
none_missing p b given = mask_of-alike _ (λ k. false) 32 (λ k h. elim (cases_eq k b) [
  | inl same ↦ rw (same, given) (and-false (holds (2 ^ b) b))
  | inr other ↦ ap (λ n. n == 1 && not (p k)) (bit_at-pow_other b k other)
]) ∙ no_places

one_missing : (p : ℕ → Bool) (b : ℕ) → b < 32 → p b ≡ false → (missing_of p (2 ^ b) == 0) ≡ false
one_missing p b low refused = grind (arith, holds_place (λ k. holds (2 ^ b) k && not (p k)) b low, bit_at-pow_same b, bit_at-zero b)

denied_not : (n m : ℕ) (b : Bool) (q : ℕ) → b ≡ false → cond b (Granted q) (Denied n) ≡ Granted m → ⊥
denied_not n m b q h j = grind arith

pub bit_is_its_check : BitIsItsCheck
bit_is_its_check owner dacl g t b low =
    let p = is_granted owner dacl g t in
    let some : (2 ^ b == 0) ≡ false = ne_eqb (2 ^ b) 0 (λ e. let some : 0 < 2 ^ b = pow_pos b in absurd (omega arith)) in
    let one = judged_low g p (most owner dacl g t) (2 ^ b) some (pow_below b 21 low) ∙ cond-false _ _ _ some in (
      λ is. true_from_ne_false (p b) (λ refused. denied_not _ _ _ _ (one_missing p b (omega arith) refused) (sym one ∙ is)),
      λ is. one ∙ ap (λ n. cond (n == 0) (Granted (2 ^ b)) (Denied n)) (none_missing p b is),
    )
