-- A text that is cut at its first `=`.
use Rattle.std.proofs.Common.{Bool, List, None, Option, Some, [], arith, cond, false, length, not, refl, suc, true, ℕ, ◌+◌, ◌<◌, ◌||◌, ◌∷◌, ◌≡◌}
use Rattle.std.specs.Borrow.{Bor}
use Rattle.std.specs.List.{after_first, before_first, list_any, position_or_len}
use Rattle.std.specs.Option.{MatchOption, option_map}
use Rattle.sd_client.specs.Claim.{halves, is_equals}

none_here : (b rest : Bool) (n m : ℕ) → (n ≡ m → rest ≡ false) → cond (not b) (1 + n) 0 ≡ suc m → (b || rest) ≡ false
none_here false rest n m after h = after (omega arith)
none_here true rest n m after h = absurd (omega arith)

one_here : (b rest : Bool) (n m : ℕ) → (n < m → rest ≡ true) → cond (not b) (1 + n) 0 < suc m → (b || rest) ≡ true
one_here false rest n m after h = after (omega arith)
one_here true rest n m after h = refl

has_none : (text : List ℕ) → position_or_len is_equals text ≡ length text → list_any is_equals text ≡ false
has_none [] h = refl
has_none (c ∷ text) h =
    none_here (is_equals c) (list_any is_equals text) (position_or_len is_equals text) (length text) (has_none text) h

has_one : (text : List ℕ) → position_or_len is_equals text < length text → list_any is_equals text ≡ true
has_one [] h = absurd (omega arith)
has_one (c ∷ text) h =
    one_here (is_equals c) (list_any is_equals text) (position_or_len is_equals text) (length text) (has_one text) h

-- the halves, by the place of the first `=`
pub cut_in_halves : (text : List ℕ) (r : Option (Bor (List ℕ) × Bor (List ℕ)))
    → MatchOption r (position_or_len is_equals text ≡ length text)
    (λ x. (position_or_len is_equals text < length text) × (x.0.now ≡ before_first is_equals text) × (x.1.now ≡ after_first is_equals text))
    → option_map (λ (parts : Bor (List ℕ) × Bor (List ℕ)). (parts.0.now, parts.1.now)) r ≡ halves text
cut_in_halves text (Some parts) h = rw (has_one text h.0, h.1, h.2)
cut_in_halves text None h = rw (has_none text h)
