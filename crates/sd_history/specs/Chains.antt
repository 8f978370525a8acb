-- A history is a chain of entries in a log that only grows. Each entry names the pen that wrote it (own) and the pen
-- that may write after it (next), by their cells. Entries of other writers name pens that the chain doesn't.
use Rattle.std.specs.Prelude.{◌≡◌, ℕ, ◌<◌, ◌⊎◌, ◌==◌, if◌then◌else◌, true, List, [], ◌∷◌, ◌++◌, length}
use mathlib.Core.List.{IsPrefix}
pub use Rattle.logbook.specs.Pages.{Book}
use Rattle.logbook.specs.Pages.{Cell, Named, Step, View, cell, may_make, nib}
use Rattle.sd_history.specs.declared.entry.Entry.{Entry}

abbrev pub entry : {T : Type 0} → List T → ℕ → ℕ → Entry T
entry what own next = record { what = what; own = own; next = next }

-- the edits of the chain that the pen of cell k starts
abbrev pub items_from : {T : Type 0} → ℕ → List (Entry T) → List T
items_from k [] = []
items_from k (x ∷ xs) = if x.own == k then x.what ++ items_from x.next xs else items_from k xs

-- the cell of the pen that may write next in that chain
abbrev pub end_of : {T : Type 0} → ℕ → List (Entry T) → ℕ
end_of k [] = k
end_of k (x ∷ xs) = if x.own == k then end_of x.next xs else end_of k xs

-- the pen of cell k is used up: the book has the cell's value
abbrev pub IsHome : List Cell → ℕ → Type 0
IsHome cells k = (k < length cells) × ((cell cells k).1 ≡ true)

abbrev pub AllHome : {T : Type 0} → List Cell → List (Entry T) → Type 0
AllHome cells [] = Unit {0}
AllHome cells (x ∷ xs) = IsHome cells x.own × AllHome cells xs

-- the book has the value of the word that all steps exchange, and of the cell of each entry's writer
abbrev pub IsKept : {T : Type 0} → List Cell → List (Entry T) → Type 0
IsKept cells log = IsHome cells 0 × AllHome cells log

abbrev pub head_of : Book → Named
head_of book = record { tracked = true; key = 0; book = book }

-- a step that makes a pen
abbrev pub MakesPen : {T : Type 0} → Step (Entry T) → View (Entry T) ℕ → ℕ → View (Entry T) ℕ → Type 0
MakesPen s v found w = (k : ℕ) × (w.1.0 ≡ nib may_make k 0)

-- a step that appends to each chain at whose end its pen is
abbrev pub Appends : {T : Type 0} → Step (Entry T) → View (Entry T) ℕ → ℕ → View (Entry T) ℕ → Type 0
Appends s v found w =
    (k : ℕ) → end_of k v.0 ≡ s.ask.own
    → (items_from k w.0 ≡ items_from k v.0 ++ s.ask.what) × (end_of k w.0 ≡ s.ask.next)

-- one of the two is a prefix of the other
abbrev pub Comparable : {T : Type 0} → List T → List T → Type 0
Comparable xs ys = IsPrefix xs ys ⊎ IsPrefix ys xs

-- of an opened history its book, the pen that starts it, and its edits so far
pub record Origin (T : Type 0) : Type 0 where
  pub book : Book
  pub first : ℕ
  pub items : List T

-- what a front has seen: the book, and a prefix of its log
pub record Sighting (T : Type 0) : Type 0 where
  pub book : Book
  pub log : List (Entry T)
