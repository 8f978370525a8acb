-- Loops that parse the parts of a text, one after the other.
use Rattle.std.proofs.Common.{Bool, Err, List, Ok, arith, false, length, refl, suc, sym, true, zero, ℕ, ◌<◌, ◌≡◌, ◌≤◌}
use Rattle.sd_text.specs.declared.fault.TextFault.{TextFault}
use Rattle.sd_claim_text.specs.Parser.{Reads, parts_found}

-- what so many parts at most make from here on is what the whole makes
pub record Reaches {A : Type 0} (more : List ℕ → Bool) (one : A → Reads A) (none : A) (start : List ℕ) (done : A) (rest : List ℕ) : Type 0 where
  pub left : ℕ
  pub enough : length rest ≤ left
  pub same : parts_found more one left done rest ≡ parts_found more one (length start) none start

module _ {A : Type 0} (more : List ℕ → Bool) (one : A → Reads A) (none : A) (start : List ℕ) where
  pub reaches_start : Reaches more one none start none start
  reaches_start = record { left = length start; enough = omega arith; same = refl }

  pub reaches_more : (done next : A) (rest after : List ℕ) → Reaches more one none start done rest → more rest ≡ true → one done rest ≡ Ok (next, after) → length after < length rest → Reaches more one none start next after
  reaches_more done next rest after reached goes is less = at reached.left reached.enough reached.same
    where
      at : (left : ℕ) → length rest ≤ left → parts_found more one left done rest ≡ parts_found more one (length start) none start → Reaches more one none start next after
      at zero enough same = absurd (omega arith)
      at (suc n) enough same = record { left = n; enough = omega arith; same = rw (goes, is) at same }

  pub reaches_end : (done : A) (rest : List ℕ) → Reaches more one none start done rest → more rest ≡ false → parts_found more one (length start) none start ≡ Ok (done, rest)
  reaches_end done rest reached ends = at reached.left reached.same
    where
      at : (left : ℕ) → parts_found more one left done rest ≡ parts_found more one (length start) none start → parts_found more one (length start) none start ≡ Ok (done, rest)
      at zero same = sym same
      at (suc n) same = sym (rw ends at same)

  pub reaches_fault : (done : A) (rest there : List ℕ) (fault : TextFault) → Reaches more one none start done rest → more rest ≡ true → 0 < length rest → one done rest ≡ Err (fault, there) → parts_found more one (length start) none start ≡ Err (fault, there)
  reaches_fault done rest there fault reached goes some fails = at reached.left reached.enough reached.same
    where
      at : (left : ℕ) → length rest ≤ left → parts_found more one left done rest ≡ parts_found more one (length start) none start → parts_found more one (length start) none start ≡ Err (fault, there)
      at zero enough same = absurd (omega arith)
      at (suc n) enough same = sym (rw (goes, fails) at same)
