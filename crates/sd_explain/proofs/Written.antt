-- What a loop writes at the places that a mask holds, from its lowest to its highest.
use Rattle.sd_explain.proofs.Cited.{List, ap, arith, bit_at-trailing_zeros, bit_at-zero, bit_at_above, cases_eq, cases_lt, cond, false, get_or, get_or-set_at, get_or-set_other, holds, inl, inr, leading_length, leading_zeros, length, length-set, set, sym, trailing_zeros, true, w32, ℕ, ◌+◌, ◌-◌, ◌<◌, ◌==◌, ◌^◌, ◌∙◌, ◌≡◌, ◌≤◌}

-- the places below i are written where the mask holds them, and the others are as they were
pub record IsWritten {A : Type 0} (none : A) (xs : List A) (old : ℕ → A) (mask : ℕ) (new : ℕ → A) (i : ℕ) : Type 0 where
  pub size : length xs ≡ 32
  pub done : (b : ℕ) → b < i → get_or xs b none ≡ cond (holds mask b) (new b) (old b)
  pub rest : (b : ℕ) → i ≤ b → get_or xs b none ≡ old b

pub written_from : {A : Type 0} (none : A) (xs : List A) (mask : ℕ) (new : ℕ → A) (i : ℕ) → length xs ≡ 32 → ((b : ℕ) → b < i → holds mask b ≡ false)
    → IsWritten none xs (λ b. get_or xs b none) mask new i
written_from none xs mask new i size empty =
    record { size = size; done = λ b h. sym (ap (λ t. cond t (new b) (get_or xs b none)) (empty b h)); rest = λ b h j. get_or xs b none }

module _ {A : Type 0} (none : A) (old : ℕ → A) (mask : ℕ) (new : ℕ → A) where
  pub written_here : (xs : List A) (x : A) (i : ℕ) → i < 32 → holds mask i ≡ true → x ≡ new i → IsWritten none xs old mask new i → IsWritten none (set xs i x) old mask new (i + 1)
  written_here xs x i low is new_here written = record {
    size = length-set xs i x ∙ written.size;
    done = λ b h. elim (cases_eq b i) as (λ _. get_or (set xs i x) b none ≡ cond (holds mask b) (new b) (old b)) [
      | inl e ↦ get_or-set_at xs i b x none e (omega (arith, low, written.size)) ∙ new_here ∙ ap new (sym e) ∙ sym (ap (λ t. cond t (new b) (old b)) (ap (holds mask) e ∙ is))
      | inr ne ↦ get_or-set_other xs i b x none ne ∙ written.done b (omega (arith, h, ne))
    ];
    rest = λ b h. get_or-set_other xs i b x none (λ (e : b ≡ i). omega (arith, h, e)) ∙ written.rest b (omega (arith, h));
  }

  pub written_not : (xs : List A) (i : ℕ) → holds mask i ≡ false → IsWritten none xs old mask new i → IsWritten none xs old mask new (i + 1)
  written_not xs i is written =
      record { size = written.size; done = λ b h. grind (arith, cases_eq b i, is, written.rest b, written.done b, h); rest = λ b h. written.rest b (omega (arith, h)) }

  -- where the mask holds no place from i on, all is written
  pub written_all : (xs : List A) (i b : ℕ) → ((k : ℕ) → i ≤ k → holds mask k ≡ false) → IsWritten none xs old mask new i → get_or xs b none ≡ cond (holds mask b) (new b) (old b)
  written_all xs i b empty written = grind (arith, cases_lt b i, written.done b, written.rest b, empty b)

-- a mask holds no place below its lowest
pub none_below_lowest : (n b : ℕ) → n < 2 ^ 32 → b < trailing_zeros w32 n → holds n b ≡ false
none_below_lowest n b small low = elim (cases_eq n 0) as (λ _. holds n b ≡ false) [
  | inl none ↦ ap (λ m. holds m b) none ∙ ap (λ k. k == 1) (bit_at-zero b)
  | inr some ↦ ap (λ k. k == 1) ((bit_at-trailing_zeros w32 n (omega (arith, some)) small).2 b low)
]

-- nor any above its highest
pub none_above_highest : (n b : ℕ) → n < 2 ^ 32 → 32 - leading_zeros w32 n ≤ b → holds n b ≡ false
none_above_highest n b small high =
    let end = leading_length 32 n small in
    ap (λ d. d == 1) (bit_at_above n end.0 b end.2 (omega (arith, end.1)))
