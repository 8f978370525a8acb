-- Loops that read the items of a `many`, one after the other.
use Rattle.sd_text.proofs.Cited.{Err, Grammar, Items, List, Name, None, Ok, Some, TextFault, [], append-nil, append_assoc, arith, begins, drop, false, find, length, many, named, refl, spells, true, ℕ, ◌++◌, ◌<◌, ◌∷◌, ◌≡◌}
use Rattle.sd_text.proofs.Parts.{begins_takes}
use Rattle.sd_text.proofs.Engine.{find_spells, spells_find, find_faults, faults_find, shorter}

-- these items have been read, and this is behind them
pub record Reaches {A B : Type 0} (names : List (Name B)) (item : List A → B → Grammar A) (start : List ℕ) (done : List A) (rest : List ℕ) : Type 0 where
  pub items : Items names (λ before b. spells (item before b)) [] start done rest

module _ {A B : Type 0} (names : List (Name B)) (item : List A → B → Grammar A) (start : List ℕ) where
  pub reaches_start : Reaches names item start [] start
  reaches_start = record { items = refl }

  pub reaches_more : (done : List A) (rest : List ℕ) (b : B) (mid : List ℕ) (x : A) (after : List ℕ) → Reaches names item start done rest → named names rest ≡ Some (b, mid) → find (item done b) mid ≡ Ok (x, after) → Reaches names item start (done ++ x ∷ []) after
  reaches_more done rest b mid x after reached name one =
      record { items = at_end [] start done reached.items (find_spells (item done b) mid x after one) }
    where
      at_end : (before : List A) (text : List ℕ) (xs : List A) → Items names (λ earlier c. spells (item earlier c)) before text xs rest → spells (item (before ++ xs) b) mid x after → Items names (λ earlier c. spells (item earlier c)) before text (xs ++ x ∷ []) after
      at_end before text [] is last = (b, mid, after, rw is at name, rw append-nil at last, refl)
      at_end before text (y ∷ xs) is last = (is.0, is.1, is.2, is.3, is.4, at_end (before ++ y ∷ []) is.2 xs is.5 (rw append_assoc last))

  pub reaches_end : (done : List A) (rest : List ℕ) → Reaches names item start done rest → named names rest ≡ None → find (many names item) start ≡ Ok (done, rest)
  reaches_end done rest reached none = spells_find (many names item) start done rest (reached.items, none)

  pub reaches_fault : (done : List A) (rest : List ℕ) (b : B) (mid : List ℕ) (d : TextFault × List ℕ) → Reaches names item start done rest → named names rest ≡ Some (b, mid) → find (item done b) mid ≡ Err d → find (many names item) start ≡ Err d
  reaches_fault done rest b mid d reached name fails =
      faults_find (many names item) start d.0 d.1 (done, rest, b, mid, reached.items, name, find_faults (item done b) mid d.0 d.1 fails)

-- ---- items that have the same letters before them

abbrev headed : List ℕ → List (Name (Unit {0}))
headed letters = record { letters = letters; stands_for = tt } ∷ []

module _ {A : Type 0} {letters : List ℕ} {item : List A → Unit {0} → Grammar A} {start : List ℕ} {done : List A} {rest : List ℕ} (reached : Reaches (headed letters) item start done rest) where
  pub item_more : {x : A} {after : List ℕ} → begins rest letters ≡ true → find (item done tt) (drop (length letters) rest) ≡ Ok (x, after) → Reaches (headed letters) item start (done ++ x ∷ []) after
  item_more {x = x} {after = after} stands one = reaches_more (headed letters) item start done rest tt (drop (length letters) rest) x after reached (rw stands refl) one

  pub item_last : begins rest letters ≡ false → find (many (headed letters) item) start ≡ Ok (done, rest)
  item_last ends = reaches_end (headed letters) item start done rest reached (rw ends refl)

  pub item_fault : {d : TextFault × List ℕ} → begins rest letters ≡ true → find (item done tt) (drop (length letters) rest) ≡ Err d → find (many (headed letters) item) start ≡ Err d
  item_fault {d = d} stands fails = reaches_fault (headed letters) item start done rest tt (drop (length letters) rest) d reached (rw stands refl) fails

-- what an item takes off the text
pub item_takes : {A : Type 0} (letters : List ℕ) (item : Grammar A) (rest : List ℕ) (x : A) (after : List ℕ) → begins rest letters ≡ true → find item (drop (length letters) rest) ≡ Ok (x, after) → length after < length rest
item_takes letters item rest x after stands one =
    let opens = begins_takes rest letters stands in
    let no_longer = shorter item (drop (length letters) rest) x after one in
    omega arith
