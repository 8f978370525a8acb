-- What a grammar finds in a text: the results of private parsers. Public calls speak of Spells and HasFault alone.
use Rattle.std.specs.Prelude.{◌<◌, ◌≤◌, ◌≡◌, ℕ, zero, suc, ◌==◌, nat_lt, Bool, true, not, List, [], ◌∷◌, ◌++◌, length}
use Rattle.std.specs.Prelude.{drop}
use Rattle.std.specs.Prelude.{take, Option, Some, None, Result, Ok, Err, IsOkAnd, if◌then◌else◌}
use Rattle.std.specs.Char.{digit_value}
use Rattle.std.specs.Str.Parse.{digits_value}
use Rattle.sd_text.specs.declared.fault.TextFault.{TextFault}
use Rattle.sd_text.specs.declared.fault.TextFault.TheVariants.{Syntax, Range}
use Rattle.sd_text.specs.Grammar.{Grammar, Name, value, refused, choose, and_then, word, number, one_of}
use Rattle.sd_text.specs.Grammar.{many, begins}
use Rattle.sd_text.specs.Grammar.{begins_digit, named}

-- a value and the text after it, or a fault and the text from there on
abbrev pub Found : Type 0 → Type 0
Found A = Result (A × List ℕ) (TextFault × List ℕ)

-- how many digits the text begins with
abbrev pub digits_len : ℕ → List ℕ → ℕ
digits_len radix [] = 0
digits_len radix (c ∷ text) = if nat_lt (digit_value c) radix then suc (digits_len radix text) else 0

-- the number at the front of the text, after its head
abbrev pub find_number : ℕ → ℕ → ℕ → List ℕ → List ℕ → Found ℕ
find_number radix limit len run text =
    if not (begins_digit radix run) then Err (Syntax, run)
    else if nat_lt (digits_value radix (take len run)) limit then Ok (digits_value radix (take len run), drop len run)
    else Err (Range, text)

-- the parse after a part that was found
abbrev pub behind_part : {A B : Type 0} → Found A → (A → List ℕ → Found B) → Found B
behind_part (Ok x) next = next x.0 x.1
behind_part (Err e) next = Err e

-- the parse after a name that may be there
abbrev pub name_or : {A B : Type 0} → Option (B × List ℕ) → (B → List ℕ → Found A) → Found A → Found A
name_or None next other = other
name_or (Some x) next other = next x.0 x.1

-- the items from here on, at most n of them, after those that were parsed before
abbrev pub find_items : {A B : Type 0} → List (Name B) → (List A → B → List ℕ → Found A) → ℕ → List A → List ℕ
    → Found (List A)
find_items names item zero before text = Ok (before, text)
find_items names item (suc n) before text =
    name_or (named names text)
    (λ b mid. behind_part (item before b mid) (λ x after. find_items names item n (before ++ x ∷ []) after))
    (Ok (before, text))

-- the value at the front of the text, or its fault
abbrev pub find : {A : Type 0} → Grammar A → List ℕ → Found A
find (value a) text = Ok (a, text)
find (refused f) text = Err (f, text)
find (choose test p q) text = if test text then find p text else find q text
find (and_then p next) text = behind_part (find p text) (λ a mid. find (next a) mid)
find (word letters) text = if begins text letters then Ok (tt, drop (length letters) text) else Err (Syntax, text)
find (number head radix limit) text = find_number radix limit (digits_len radix (drop head text)) (drop head text) text
find (one_of names p) text = name_or (named names text) (λ a mid. Ok (a, mid)) (find p text)
find (many names item) text = find_items names (λ before b. find (item before b)) (length text) [] text

-- a parser returns what the grammar finds, its value seen by view, and leaves the text after it, or stops at the fault
abbrev pub Gives : {X A : Type 0} → (X → A) → Result X TextFault → List ℕ → Found A → Type 0
Gives view (Ok x) rest found = found ≡ Ok (view x, rest)
Gives view (Err fault) rest found = found ≡ Err (fault, rest)

-- a parser returns what the grammar finds, or None if an allocation failed, which happens only for values that pass the
-- test; it leaves the text after it, or stops at the fault
abbrev pub GivesUnlessMemory : {X A : Type 0}
    → (X → A) → (A → Bool) → Result (Option X) TextFault → List ℕ → Found A → Type 0
GivesUnlessMemory view takes (Ok (Some x)) rest found = found ≡ Ok (view x, rest)
GivesUnlessMemory view takes (Ok None) rest found = IsOkAnd found (λ x. (x.1 ≡ rest) × (takes x.0 ≡ true))
GivesUnlessMemory view takes (Err fault) rest found = found ≡ Err (fault, rest)

-- the number is n, or at or above the limit if n is
pub record IsCapped (limit number n : ℕ) : Type 0 where
  pub below : number < limit → number ≡ n
  pub above : limit ≤ number → limit ≤ n
