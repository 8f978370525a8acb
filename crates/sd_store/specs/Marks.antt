-- The marks of a published journal: 0, and then its length after each publish, in order. What the operations of a
-- publish make of what is published.
use Rattle.std.specs.Prelude.{◌≡◌, ℕ, ◌-◌, Bool, true, false, List, [], ◌∷◌, ◌++◌, length, fold, slice_set}
use Rattle.sd_edit.specs.Journal.{TreeValue}
use Rattle.sd_edit.specs.declared.edit.Edit.{Edit}
use Rattle.sd_history.specs.Chains.{Sighting}
use Rattle.sd_store.specs.declared.operation.Facts.{Facts}
use Rattle.sd_store.specs.declared.operation.Operation.{Operation}

-- 0 where there is none
abbrev pub last_of : List ℕ → ℕ
last_of [] = 0
last_of (x ∷ []) = x
last_of (x ∷ y ∷ ys) = last_of (y ∷ ys)

-- the first operation of a publish adds a mark; each further one moves it
abbrev pub marks_with : Bool → List ℕ → ℕ → List ℕ
marks_with true marks new = marks ++ new ∷ []
marks_with false marks new = slice_set marks (length marks - 1) new

-- what is published is the operation's tree, with its mark
abbrev pub marked : Facts → Operation → Facts
marked s operation = record {
  opening = operation.tree.opening;
  journal = operation.tree.journal;
  marks = marks_with operation.opens s.marks (length operation.tree.journal);
  seen = operation.front;
}

-- none of them adds a mark
abbrev pub Follow : List Operation → Type 0
Follow [] = Unit {0}
Follow (operation ∷ operations) = (operation.opens ≡ false) × Follow operations

-- the first of them adds a mark, and no other: together they are one publish
abbrev pub IsOnePublish : List Operation → Type 0
IsOnePublish [] = Unit {0}
IsOnePublish (operation ∷ operations) = (operation.opens ≡ true) × Follow operations

-- the tree is published, with one mark more, its length
abbrev pub with_shown : Facts → TreeValue → Sighting Edit → Facts
with_shown s tree front = record {
  opening = tree.opening;
  journal = tree.journal;
  marks = s.marks ++ length tree.journal ∷ [];
  seen = front;
}

-- the operations, whatever was published before, come to that
abbrev pub ShowTree : List Operation → TreeValue → Sighting Edit → Type 0
ShowTree operations tree front = (s : Facts) → fold marked s operations ≡ with_shown s tree front
