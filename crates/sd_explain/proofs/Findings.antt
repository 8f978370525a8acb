-- What a pass finds, entry by entry.
use Rattle.sd_explain.proofs.Cited.{Ace, Allowed, Bool, Denied, Finding, List, Some, add-one, add-zero, ap, arith, cond, drop, drop-cons, false, find, finding_at, get_or, is_allow, length, not, position_or_len, refl, sym, true, zero-add, ℕ, ◌+◌, ◌<◌, ◌∙◌, ◌∷◌, ◌≡◌}

-- what the rest of a list finds, which begins at the place
abbrev pub finding_from : (Ace → Bool) → List Ace → ℕ → Finding
finding_from p rest i = finding_at (i + position_or_len p rest) (find p rest)

pub from_the_first : (p : Ace → Bool) (es : List Ace) → finding_at (position_or_len p es) (find p es) ≡ finding_from p (drop 0 es) 0
from_the_first p es = ap (λ n. finding_at n (find p es)) (sym (zero-add (position_or_len p es)))

rest_of : (es : List Ace) (i : ℕ) (e : Ace) → i < length es → e ≡ get_or es i e → drop i es ≡ e ∷ drop (i + 1) es
rest_of es i e low is = rw (add-one, drop-cons es i e low, ← is) refl

passed_over : (p : Ace → Bool) (e : Ace) (rest : List Ace) (i : ℕ) → p e ≡ false → finding_from p (e ∷ rest) i ≡ finding_from p rest (i + 1)
passed_over p e rest i fails =
    ap (λ t. finding_at (i + cond (not t) (1 + position_or_len p rest) 0) (cond t (Some e) (find p rest))) fails
    ∙ ap (λ n. finding_at n (find p rest)) (let same : i + (1 + position_or_len p rest) ≡ (i + 1) + position_or_len p rest = omega arith in same)

-- an entry that doesn't settle the bit
pub passes : (p : Ace → Bool) (es : List Ace) (i : ℕ) (e : Ace) → i < length es → e ≡ get_or es i e → p e ≡ false
    → finding_from p (drop i es) i ≡ finding_from p (drop (i + 1) es) (i + 1)
passes p es i e low is fails = ap (λ rest. finding_from p rest i) (rest_of es i e low is) ∙ passed_over p e (drop (i + 1) es) i fails

-- one that does
pub settled : (p : Ace → Bool) (es : List Ace) (i : ℕ) (e : Ace) → i < length es → e ≡ get_or es i e → p e ≡ true
    → finding_from p (drop i es) i ≡ cond (is_allow e.kind) (Allowed i) (Denied i)
settled p es i e low is passes_it =
    ap (λ rest. finding_from p rest i) (rest_of es i e low is)
    ∙ ap (λ t. finding_at (i + cond (not t) (1 + position_or_len p (drop (i + 1) es)) 0) (cond t (Some e) (find p (drop (i + 1) es)))) passes_it
    ∙ ap (λ n. cond (is_allow e.kind) (Allowed n) (Denied n)) (add-zero i)
