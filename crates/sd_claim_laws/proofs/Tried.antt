-- What holds of all numbers below a limit, tried one by one.
use Rattle.std.proofs.Common.{arith, inl, inr, subst, suc, sym, true, zero, ℕ, ◌<◌, ◌≡◌}
use Rattle.std.specs.Prelude.{Bool, ◌&&◌, ◌==◌}
use Rattle.std.proofs.lemmas.Bool.{and_parts, cases_lt, eqb-false, eqb-true}
use Rattle.sd_text.proofs.Parts.{went}

-- a test passes for each
unfoldable pub all_below : (ℕ → Bool) → ℕ → Bool
all_below p zero = true
all_below p (suc n) = p n && all_below p n

pub each_below : (p : ℕ → Bool) (n k : ℕ) → all_below p n ≡ true → k < n → p k ≡ true
unfolding all_below
each_below p zero k all lt = absurd (omega arith)
each_below p (suc n) k all lt =
    let both = and_parts (p n) (all_below p n) all in
    elim (cases_lt k n) [ inl below ↦ each_below p n k both.1 below | inr above ↦ let same : n ≡ k = omega arith in rw (sym same) both.0 ]

-- something holds of each
unfoldable pub AllBelow : (ℕ → Type 0) → ℕ → Type 0
AllBelow P zero = Unit {0}
AllBelow P (suc k) = AllBelow P k × P k

pub one_below : (P : ℕ → Type 0) (k : ℕ) → AllBelow P k → (n : ℕ) → n < k → P n
unfolding AllBelow
one_below P zero all n lt = absurd (omega arith)
one_below P (suc k) all n lt =
    elim (went (n == k)) [
      | inl same ↦ subst P (sym (eqb-true n k same)) all.1
      | inr other ↦ one_below P k all.0 n (let apart = eqb-false n k other in omega arith)
    ]
