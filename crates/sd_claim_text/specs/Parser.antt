-- Parsers of the parts of a text: what each finds at the front of a text, and one after the other.
use Rattle.std.specs.Prelude.{ℕ, zero, suc, Bool, List, Ok, Err, if◌then◌else◌}
use Rattle.sd_text.specs.Finding.{Found, behind_part, find}
use Rattle.sd_text.specs.Grammar.{word}

-- what is found at the front of a text
abbrev pub Reads : Type 0 → Type 0
Reads A = List ℕ → Found A

-- a value, and nothing is consumed
abbrev pub gives : {A : Type 0} → A → Reads A
gives a text = Ok (a, text)

-- one part, then the next, as steps of a `do`
infixl 10 ◌>>=◌
abbrev pub ◌>>=◌ : {A B : Type 0} → Reads A → (A → Reads B) → Reads B
◌>>=◌ part next text = behind_part (part text) next

-- f of what is found
abbrev pub mapped : {A B : Type 0} → (A → B) → Found A → Found B
mapped f (Ok x) = Ok (f x.0, x.1)
mapped f (Err e) = Err e

-- these letters, of either case
abbrev pub letters_found : List ℕ → Reads (Unit {0})
letters_found letters text = find (word letters) text

-- while the text passes the test one more part, which is added to what was parsed; at most n of them
abbrev pub parts_found : {A : Type 0} → (List ℕ → Bool) → (A → Reads A) → ℕ → A → Reads A
parts_found more one zero done text = Ok (done, text)
parts_found more one (suc n) done text =
    if more text then behind_part (one done text) (λ next rest. parts_found more one n next rest) else Ok (done, text)
