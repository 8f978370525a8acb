-- Parsers of more than grammars: parts one after the other, and what the code's parsers return of what is found.
use Rattle.std.specs.Prelude.{◌≡◌, ℕ, ◌-◌, ◌==◌, Bool, List, [], length, Result, Ok, Err}
use Rattle.std.specs.List.{list_any}
use Rattle.sd_text.specs.Finding.{Found, behind_part}
use Rattle.sd_text.specs.declared.fault.TextError.{TextError}
use Rattle.sd_text.specs.declared.fault.TextError.TheVariants.{Fault, Memory}
use Rattle.sd_whole_parse.specs.declared.stop.Stop.{Stop}
use Rattle.sd_whole_parse.specs.declared.stop.Stop.TheVariants as stops

infixl 10 ◌>>=◌
-- one part, then the next, as steps of a `do`
abbrev pub ◌>>=◌ : {A B : Type 0} → (List ℕ → Found A) → (A → List ℕ → Found B) → List ℕ → Found B
part >>= next = λ text. behind_part (part text) next

-- no text, whose value is this
abbrev pub done : {A : Type 0} → A → List ℕ → Found A
done a text = Ok (a, text)

-- a parser returns what is found, its value seen by view, and leaves the text after it, or stops at the fault; or
-- memory ran out
abbrev pub GivesOrMemory : {X A : Type 0} → (X → A) → Result X Stop → List ℕ → Found A → Type 0
GivesOrMemory view (Ok x) rest found = found ≡ Ok (view x, rest)
GivesOrMemory view (Err (stops.Fault fault)) rest found = found ≡ Err (fault, rest)
GivesOrMemory view (Err stops.Memory) rest found = Unit {0}

-- a whole text is parsed: the value that is found, to the end of the text, or the fault at its offset in bytes from 0;
-- or memory ran out
abbrev pub Reads : {X A : Type 0} → (X → A) → Result X TextError → List ℕ → Found A → Type 0
Reads view (Ok x) text found = found ≡ Ok (view x, [])
Reads view (Err (Fault fault place)) text found =
    (there : List ℕ) × (found ≡ Err (fault, there)) × (place ≡ length text - length there)
Reads view (Err Memory) text found = Unit {0}

-- the text has a `(`, as each entry has
abbrev pub has_opening : List ℕ → Bool
has_opening text = list_any (λ byte. byte == 40) text
