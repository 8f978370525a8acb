-- What is found at the front of a text, and what a function returns of that.
use Rattle.std.specs.Prelude.{◌≡◌, ℕ, zero, suc, Bool, List, ◌++◌, length, Option, Some, None, Result, Ok, Err}
use Rattle.std.specs.Prelude.{if◌then◌else◌}
use Rattle.sd_condition_parse.specs.declared.error.ConditionError.{ConditionError}
use Rattle.sd_condition_parse.specs.declared.error.ConditionError.TheVariants.{Fault, Memory}
use Rattle.sd_text.specs.Finding.{Found, behind_part}
use Rattle.sd_text.specs.declared.fault.TextFault.{TextFault}
use Rattle.sd_text.specs.declared.fault.TextFault.TheVariants.{Syntax}

-- a part of a text: the value at the front of a text and the text after it, or a fault and the text from there on
abbrev pub Parser : Type 0 → Type 0
Parser A = List ℕ → Found A

-- the empty text, which has this value
abbrev pub found : {A : Type 0} → A → Parser A
found a text = Ok (a, text)

-- no text, but a fault
abbrev pub refused : {A : Type 0} → TextFault → Parser A
refused fault text = Err (fault, text)

-- one part if the test holds of the text from here on, else another
abbrev pub choose : {A : Type 0} → (List ℕ → Bool) → Parser A → Parser A → Parser A
choose test p q text = if test text then p text else q text

-- one part, then the next, as steps of a `do`
infixl 10 ◌>>=◌
abbrev pub ◌>>=◌ : {A B : Type 0} → Parser A → (A → Parser B) → Parser B
(p >>= next) text = behind_part (p text) (λ a rest. next a rest)

-- a step again and again, each with what the one before it left, until one says that no other follows; so many at most
unfoldable pub repeated : {S : Type 0} → (S → Parser (Bool × S)) → ℕ → S → Parser S
repeated step zero state text = Err (Syntax, text)
repeated step (suc n) state text = behind_part (step state text)
    (λ next rest. if next.0 then repeated step n next.1 rest else Ok (next.1, rest))

-- a step as often as the text has room for steps that take a byte each
abbrev pub steps : {S : Type 0} → (S → Parser (Bool × S)) → S → Parser S
steps step state text = repeated step (suc (length text)) state text

-- an error is the fault that is found, at which the text was left, or that memory ran out
abbrev pub Refuses : {A : Type 0} → ConditionError → List ℕ → Found A → Type 0
Refuses (Fault fault) rest there = there ≡ Err (fault, rest)
Refuses Memory rest there = Unit {0}

-- a function returns what is found, its value seen by view, and leaves the text after it, or stops at the fault;
-- memory may run out instead
abbrev pub GivesAs : {X A : Type 0} → (X → A) → Result X ConditionError → List ℕ → Found A → Type 0
GivesAs view (Ok x) rest there = there ≡ Ok (view x, rest)
GivesAs view (Err e) rest there = Refuses e rest there

-- the value itself
abbrev pub Gives : {A : Type 0} → Result A ConditionError → List ℕ → Found A → Type 0
Gives result rest there = GivesAs (λ x. x) result rest there

-- a function consumes a name of a table that is there and returns its meaning, or consumes nothing
abbrev pub Names : {A : Type 0} → Option A → List ℕ → List ℕ → Option (A × List ℕ) → Type 0
Names None old new name = (name ≡ None) × (new ≡ old)
Names (Some a) old new name = name ≡ Some (a, new)

-- a part, whose values are put after those before
abbrev pub adds : {A : Type 0} → List A → Parser (List A) → Parser (List A)
adds before p text = behind_part (p text) (λ xs rest. Ok (before ++ xs, rest))
