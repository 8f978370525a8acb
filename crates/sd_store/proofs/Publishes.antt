-- One publish, as a step of the store.
use Rattle.sd_store.proofs.Cited.{Edit, Err, Facts, IsFrontOf, IsLawful, IsPrefix, IsSound, Kept, KnownJournal, List, MatchResult, Ok, Operation, Published, Result, ShowTree, Shows, Sighting, StoreIdValue, TreeValue, TurnsAt, [], ap, fold, items_from, last_of, length, marked, subst, sym, with_shown, ℕ, ◌++◌, ◌∙◌, ◌∷◌, ◌≡◌}
use Rattle.sd_store.proofs.Keeping.{turns}
use Rattle.sd_store.proofs.Marking.{last_push}
use Rattle.sd_store.proofs.Prefixes.{prefix_append, prefix_trans}

abbrev pub facts_of : Published → Facts
facts_of x = record { opening = x.tree.opening; journal = x.tree.journal; marks = x.marks.items; seen = x.front }

-- y is x after the operations of one publish
abbrev IsNext : Published → Published → List Operation → Type 0
IsNext x y ops = facts_of y ≡ fold marked (facts_of x) ops

module _ (x y : Published) (ops : List Operation) (tree : TreeValue) (front : Sighting Edit) (shown : ShowTree ops tree front) (next : IsNext x y ops) where
  whole : facts_of y ≡ with_shown (facts_of x) tree front
  whole = next ∙ shown (facts_of x)

  pub journal_next : y.tree.journal ≡ tree.journal
  journal_next = ap (λ (s : Facts). s.journal) whole

  pub marks_next : y.marks.items ≡ x.marks.items ++ length y.tree.journal ∷ []
  marks_next = ap (λ (s : Facts). s.marks) whole ∙ ap (λ j. x.marks.items ++ length j ∷ []) (sym journal_next)

  -- what is then published is sound
  sound_next : (n : StoreIdValue) → tree.opening ≡ n.opening → IsLawful n.opening tree.journal → IsFrontOf n front tree.journal
      → IsSound n x → IsSound n y
  sound_next n opening lawful of sound = record {
    opening = ap (λ (s : Facts). s.opening) whole ∙ opening;
    lawful = subst (IsLawful n.opening) (sym journal_next) lawful;
    begins = subst (IsPrefix (0 ∷ [])) (sym marks_next) (prefix_trans (0 ∷ []) x.marks.items (x.marks.items ++ length y.tree.journal ∷ []) sound.begins (prefix_append x.marks.items (length y.tree.journal ∷ [])));
    ends = ap last_of marks_next ∙ last_push x.marks.items (length y.tree.journal);
    front = record {
      book = ap (λ f. f.book) (ap (λ (s : Facts). s.seen) whole) ∙ of.book;
      items = ap (λ f. items_from n.first f.log) (ap (λ (s : Facts). s.seen) whole) ∙ of.items ∙ sym journal_next;
    };
  }

  pub publishes : (n : StoreIdValue) (seat : ℕ) (v : KnownJournal) → tree.opening ≡ n.opening → IsLawful n.opening tree.journal → IsFrontOf n front tree.journal
      → IsPrefix x.tree.journal tree.journal → TurnsAt (Kept n) seat v x y (Shows n)
  publishes n seat v opening lawful of onwards = turns n seat v x y
      (sound_next n opening lawful of)
      (subst (IsPrefix x.tree.journal) (sym journal_next) onwards)
      (subst (IsPrefix x.marks.items) (sym marks_next) (prefix_append x.marks.items (length y.tree.journal ∷ [])))

-- what a publish answers, as the cell tells it
module _ {X E : Type 0} where
  pub journal_after : (P Q : Type 0) (r : Result X E) (x y : Published) (ops : List Operation) (tree : TreeValue) (front : Sighting Edit) → ShowTree ops tree front
      → MatchResult r (λ _. IsNext x y ops × P) (λ _. (y ≡ x) × Q)
      → MatchResult r (λ _. y.tree.journal ≡ tree.journal) (λ _. y.tree.journal ≡ x.tree.journal)
  journal_after P Q (Ok z) x y ops tree front shown is = journal_next x y ops tree front shown is.0
  journal_after P Q (Err e) x y ops tree front shown is = ap (λ (p : Published). p.tree.journal) is.0

  pub marks_after : (P Q : Type 0) (r : Result X E) (x y : Published) (ops : List Operation) (tree : TreeValue) (front : Sighting Edit) → ShowTree ops tree front
      → MatchResult r (λ _. IsNext x y ops × P) (λ _. (y ≡ x) × Q)
      → MatchResult r (λ _. y.marks.items ≡ x.marks.items ++ length y.tree.journal ∷ []) (λ _. y.marks.items ≡ x.marks.items)
  marks_after P Q (Ok z) x y ops tree front shown is = marks_next x y ops tree front shown is.0
  marks_after P Q (Err e) x y ops tree front shown is = ap (λ (p : Published). p.marks.items) is.0
