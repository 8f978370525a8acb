-- Grammars: which value a text spells, and the fault of a text that spells none.
use Rattle.std.specs.Prelude.{◌≡◌, ℕ, ◌+◌, ◌<◌, ◌≤◌, ◌==◌, nat_lt, Bool, true, false, ◌&&◌, ◌⊎◌, List, [], ◌∷◌, ◌++◌}
use Rattle.std.specs.Prelude.{length, drop, fold, Option, Some, None, if◌then◌else◌}
use Rattle.std.specs.Char.{digit_value, eq_ignore_ascii_case}
use Rattle.std.specs.Str.Parse.{IsNumeral, digits_value}
use Rattle.sd_text.specs.declared.fault.TextFault.{TextFault}
use Rattle.sd_text.specs.declared.fault.TextFault.TheVariants.{Syntax, Range}

-- the text begins with these letters, at least one, of either case
abbrev pub begins : List ℕ → List ℕ → Bool
begins [] letters = false
begins (c ∷ text) [] = false
begins (c ∷ text) (l ∷ []) = eq_ignore_ascii_case c l
begins (c ∷ text) (l ∷ m ∷ letters) = eq_ignore_ascii_case c l && begins text (m ∷ letters)

-- the text begins with a digit
abbrev pub begins_digit : ℕ → List ℕ → Bool
begins_digit radix [] = false
begins_digit radix (c ∷ text) = nat_lt (digit_value c) radix

-- a name of a table, and its meaning
pub record Name (A : Type 0) : Type 0 where
  pub letters : List ℕ
  pub stands_for : A

-- a name for this
abbrev pub name_for : {A : Type 0} → List ℕ → A → Name A
name_for letters meaning = record { letters = letters; stands_for = meaning }

-- the meaning of the first name that the text begins with, and the text after it
abbrev pub named : {A : Type 0} → List (Name A) → List ℕ → Option (A × List ℕ)
named [] text = None
named (name ∷ names) text = if begins text name.letters then Some (name.stands_for, drop (length name.letters) text)
    else named names text

-- value a: the empty text, whose value is a.
-- refused f: no text; its fault is f.
-- choose test p q: p if the test holds of the text from here on, else q.
-- and_then p next: p, then what next makes of its value.
-- word letters: these letters, of either case.
-- number head radix limit: a head of so many bytes, all digits after it, and a value below the limit.
-- one_of names p: a name of the table, else p.
-- many names item: as often as a name of the table follows, that name and an item, which may depend on earlier items.
pub data Grammar : Type 0 → Type 1 where
  value : {A : Type 0} → A → Grammar A
  refused : {A : Type 0} → TextFault → Grammar A
  choose : {A : Type 0} → (List ℕ → Bool) → Grammar A → Grammar A → Grammar A
  and_then : {A B : Type 0} → Grammar A → (A → Grammar B) → Grammar B
  word : List ℕ → Grammar (Unit {0})
  number : ℕ → ℕ → ℕ → Grammar ℕ
  one_of : {A : Type 0} → List (Name A) → Grammar A → Grammar A
  many : {A B : Type 0} → List (Name B) → (List A → B → Grammar A) → Grammar (List A)

-- one part, then the next, as steps of a `do`
infixl 10 ◌>>=◌
abbrev pub ◌>>=◌ : {A B : Type 0} → Grammar A → (A → Grammar B) → Grammar B
p >>= next = and_then p next

-- the end of the text
abbrev pub end : Grammar (Unit {0})
end = choose (λ text. length text == 0) (value tt) (refused Syntax)

-- the part, then the end of the text
abbrev pub whole : {A : Type 0} → Grammar A → Grammar A
whole part = part >>= λ a. end >>= λ u. value a

-- a run of names of the table, perhaps empty, whose meanings are added up in order
abbrev pub run : {A B : Type 0} → List (Name A) → (B → A → B) → B → Grammar B
run names add none = many names (λ before meaning. value meaning) >>= λ meanings. value (fold add none meanings)

-- the text is these digits, all that it begins with, and the text after them
pub record Run (radix : ℕ) (text digits behind : List ℕ) : Type 0 where
  pub parts : text ≡ digits ++ behind
  pub numeral : IsNumeral radix digits
  pub whole : begins_digit radix behind ≡ false

-- the text begins with these items, each after a name of the table; reads says which text an item is
abbrev pub Items : {A B : Type 0} → List (Name B) → (List A → B → List ℕ → A → List ℕ → Type 0) → List A → List ℕ
    → List A → List ℕ → Type 0
Items names reads before text [] behind = behind ≡ text
Items {B = B} names reads before text (x ∷ xs) behind = (b : B) × (mid : List ℕ) × (after : List ℕ)
    × (named names text ≡ Some (b, mid)) × reads before b mid x after
    × Items names reads (before ++ x ∷ []) after xs behind

-- the text begins with a spelling of the value, and this is the text after it
abbrev pub spells : {A : Type 0} → Grammar A → List ℕ → A → List ℕ → Type 0
spells (value a) text b behind = (b ≡ a) × (behind ≡ text)
spells (refused fault) text b behind = ⊥
spells (choose test p q) text a behind = ((test text ≡ true) × spells p text a behind)
    ⊎ ((test text ≡ false) × spells q text a behind)
spells (and_then {A = A} p next) text b behind = (a : A) × (mid : List ℕ) × spells p text a mid
    × spells (next a) mid b behind
spells (word letters) text u behind = (begins text letters ≡ true) × (behind ≡ drop (length letters) text)
spells (number head radix limit) text n behind = (digits : List ℕ) × Run radix (drop head text) digits behind
    × (n ≡ digits_value radix digits) × (n < limit)
spells (one_of names p) text a behind = (named names text ≡ Some (a, behind))
    ⊎ ((named names text ≡ None) × spells p text a behind)
spells (many names item) text xs behind = Items names (λ before b. spells (item before b)) [] text xs behind
    × (named names behind ≡ None)

-- the text begins as a spelling does, up to the fault; there is the text from the fault on
abbrev pub faults : {A : Type 0} → Grammar A → List ℕ → TextFault → List ℕ → Type 0
faults (value a) text fault there = ⊥
faults (refused f) text fault there = (fault ≡ f) × (there ≡ text)
faults (choose test p q) text fault there = ((test text ≡ true) × faults p text fault there)
    ⊎ ((test text ≡ false) × faults q text fault there)
faults (and_then {A = A} p next) text fault there = faults p text fault there
    ⊎ ((a : A) × (mid : List ℕ) × spells p text a mid × faults (next a) mid fault there)
faults (word letters) text fault there = (begins text letters ≡ false) × (fault ≡ Syntax) × (there ≡ text)
faults (number head radix limit) text fault there =
    ((fault ≡ Syntax) × (there ≡ drop head text) × (begins_digit radix there ≡ false))
    ⊎ ((fault ≡ Range) × (there ≡ text) × (digits : List ℕ) × (behind : List ℕ)
    × Run radix (drop head text) digits behind × (limit ≤ digits_value radix digits))
faults (one_of names p) text fault there = (named names text ≡ None) × faults p text fault there
faults (many {A = A} {B = B} names item) text fault there =
    (xs : List A) × (last : List ℕ) × (b : B) × (mid : List ℕ)
    × Items names (λ before c. spells (item before c)) [] text xs last × (named names last ≡ Some (b, mid))
    × faults (item xs b) mid fault there

-- the text spells the value
abbrev pub Spells : {A : Type 0} → Grammar A → List ℕ → A → Type 0
Spells grammar text a = spells grammar text a []

-- the text spells a value that passes the test
abbrev pub SpellsOne : {A : Type 0} → (A → Bool) → Grammar A → List ℕ → Type 0
SpellsOne {A = A} test grammar text = (a : A) × Spells grammar text a × (test a ≡ true)

-- the text has this fault at this offset, in bytes from 0
abbrev pub HasFault : {A : Type 0} → Grammar A → List ℕ → TextFault → ℕ → Type 0
HasFault grammar text fault place = (there : List ℕ) × faults grammar text fault there
    × (place + length there ≡ length text)
