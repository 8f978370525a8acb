-- Digits, one after the other.
use Rattle.std.proofs.Common.{arith, inl, inr, refl, ℕ, ◌*◌, ◌+◌, ◌^◌, ◌≡◌, ◌≤◌}
use Rattle.std.proofs.Math.Nat.{mul-le-mul_left}
use Rattle.std.proofs.lemmas.Bool.{le-ltb, ltb-false}
use Rattle.std.specs.Prelude.{nat_lt}
use Rattle.sd_text.proofs.Parts.{went}
use Rattle.sd_claim_text.specs.Number.{in_64_bits, with_digit}

-- a number that has more than 64 bits has so with one more digit
pub one_more : (n radix digit : ℕ) → 1 ≤ radix → with_digit (in_64_bits n) radix digit ≡ in_64_bits (n * radix + digit)
one_more n radix digit some =
    elim (went (nat_lt n (2 ^ 64))) [
      | inl h ↦ rw h refl
      | inr h ↦
          let large = ltb-false n (2 ^ 64) h in
          let grows = mul-le-mul_left n some in
          rw (h, le-ltb (n * radix + digit) (2 ^ 64) (omega arith)) refl
    ]
