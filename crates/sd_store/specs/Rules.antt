-- The rule of the store that threads share: what the published value is, and what each reader and the writer know of
-- it.
use Rattle.std.specs.Prelude.{◌≡◌, ℕ, List, [], ◌∷◌, length}
use mathlib.Core.List.{IsPrefix}
use mathlib.Core.Option.{some}
use lib.ListN.{get_elem?}
use Rattle.sd_history.specs.Chains.{Book}
use Rattle.sd_edit.specs.Journal.{IsLawful}
use Rattle.sd_edit.specs.declared.opening.Opening.{Opening}
use Rattle.sd_edit.specs.declared.edit.Edit.{Edit}
use Rattle.sd_history.specs.Chains.{Sighting, items_from}
use Rattle.sd_store.specs.Marks.{last_of, IsOnePublish}
use Rattle.sd_store.specs.declared.operation.Operation.{Operation}
use Rattle.sd_store.specs.declared.published.Published.{Published}
use Rattle.sd_store.specs.declared.rule.KnownJournal.{KnownJournal}

-- what a store is: its opening, and the history of its edits, by its book and its first cell
pub record StoreIdValue : Type 0 where
  pub opening : Opening
  pub book : Book
  pub first : ℕ

abbrev pub store_id : Opening → Book → ℕ → StoreIdValue
store_id opening book first = record { opening = opening; book = book; first = first }

-- ---- views

-- the view that a reader starts with: the empty journal, with the one mark 0
abbrev pub newcomer : KnownJournal
newcomer = record { journal = []; marks = 0 ∷ [] }

-- the whole of what is published
abbrev pub whole_of : Published → KnownJournal
whole_of x = record { journal = x.tree.journal; marks = x.marks.items }

-- a view is of a moment that was: its marks are a beginning of the published ones, and its journal is the published
-- one up to the last of them
abbrev pub Fits : Published → KnownJournal → Type 0
Fits x v = IsPrefix v.journal x.tree.journal × IsPrefix v.marks x.marks.items × (last_of v.marks ≡ length v.journal)

-- ---- the published value

-- the front is that of the store's history, and the history is this journal
pub record IsFrontOf (n : StoreIdValue) (front : Sighting Edit) (journal : List Edit) : Type 0 where
  pub book : front.book ≡ n.book
  pub items : items_from n.first front.log ≡ journal

-- the tree has the store's opening, and a valid journal; the marks begin with 0 and end with the journal's length
pub record IsSound (n : StoreIdValue) (x : Published) : Type 0 where
  pub opening : x.tree.opening ≡ n.opening
  pub lawful : IsLawful n.opening x.tree.journal
  pub begins : IsPrefix (0 ∷ []) x.marks.items
  pub ends : last_of x.marks.items ≡ length x.tree.journal
  pub front : IsFrontOf n x.front x.tree.journal

-- the rule: of the value, and of each view alone against the value
abbrev pub Kept : StoreIdValue → Published → List KnownJournal → Type 0
Kept n x views = IsSound n x × ((seat : ℕ) (v : KnownJournal) → get_elem? views seat ≡ some v → Fits x v)

-- what a read and a publish give: the new view is the whole of what is then published, which is sound and goes on from
-- the view before
abbrev pub Shows : StoreIdValue → KnownJournal → Published → Published → KnownJournal → Type 0
Shows n v x y w = (w ≡ whole_of y) × IsSound n y × Fits y v

-- ---- the writer

-- the writer's view is the whole of what is published, and the pending operations are one publish
pub record IsReady (n : StoreIdValue) (v : KnownJournal) (x : Published) (operations : List Operation) : Type 0 where
  pub whole : v ≡ whole_of x
  pub sound : IsSound n x
  pub one : IsOnePublish operations

-- a store that was just opened
abbrev pub IsOpened : StoreIdValue → KnownJournal → Published → List Operation → Type 0
IsOpened n v x operations = IsReady n v x operations × (x.tree.journal ≡ []) × (x.marks.items ≡ 0 ∷ [])
    × (operations ≡ [])
