-- An edit that was made or judged as a result says it, for what holds of the result.
use Rattle.sd_c.proofs.Cited.{CheckAnswer, Edit, Edits, Err, Handle, IsAllowed, IsEdited, IsNotEdited, Judges, Kept, NotDone, Ok, Result, inl, inr, subst, ◌≡◌}
use Rattle.std.proofs.Common.{IfErr, IfOk}

says : (r : Result Edit NotDone) (Says : Edit → Type 0) → IfOk r Says → (edit : Edit) → r ≡ Ok edit → Says edit
says r Says ok edit is = subst (λ (x : Result Edit NotDone). IfOk x Says) is ok

says_none : (r : Result Edit NotDone) (SaysNone : NotDone → Type 0) → IfErr r SaysNone → (why : NotDone) → r ≡ Err why → SaysNone why
says_none r SaysNone err why is = subst (λ (x : Result Edit NotDone). IfErr x SaysNone) is err

edited : (r : Result Edit NotDone) (Says : Edit → Type 0) → IfOk r Says → (old new : Kept)
    → IsEdited (λ edit. r ≡ Ok edit) old new → IsEdited Says old new
edited r Says ok old new e = (e.0, e.1, e.2, says r Says ok e.1 e.3, e.4, e.5)

allowed : (r : Result Edit NotDone) (Says : Edit → Type 0) → IfOk r Says → (store : Kept)
    → IsAllowed (λ edit. r ≡ Ok edit) store → IsAllowed Says store
allowed r Says ok store e = (e.0, e.1, e.2, says r Says ok e.1 e.3, e.4)

not_edited : (r : Result Edit NotDone) (Says : Edit → Type 0) (SaysNone : NotDone → Type 0) → IfOk r Says → IfErr r SaysNone
    → (old : Kept) (why : NotDone) → IsNotEdited (λ edit. r ≡ Ok edit) (λ none. r ≡ Err none) old why → IsNotEdited Says SaysNone old why
not_edited r Says SaysNone ok err old why (inl no_store) = inl no_store
not_edited r Says SaysNone ok err old why (inr (inl none)) = inr (inl (none.0, says_none r SaysNone err why none.1))
not_edited r Says SaysNone ok err old why (inr (inr e)) = inr (inr (e.0, e.1, e.2, says r Says ok e.1 e.3, e.4))

pub edits_said : (r : Result Edit NotDone) (Says : Edit → Type 0) (SaysNone : NotDone → Type 0) → IfOk r Says → IfErr r SaysNone
    → (old new : Handle) (answer : CheckAnswer) → Edits (λ edit. r ≡ Ok edit) (λ none. r ≡ Err none) old new answer
    → Edits Says SaysNone old new answer
edits_said r Says SaysNone ok err old new answer (inl e) =
    inl (e.0, e.1, edited r Says ok old.seal.kept new.seal.kept e.2, e.3)
edits_said r Says SaysNone ok err old new answer (inr (inl e)) =
    inr (inl (e.0, e.1, not_edited r Says SaysNone ok err old.seal.kept e.0 e.2, e.3, e.4))
edits_said r Says SaysNone ok err old new answer (inr (inr none)) = inr (inr none)

pub judges_said : (r : Result Edit NotDone) (Says : Edit → Type 0) (SaysNone : NotDone → Type 0) → IfOk r Says → IfErr r SaysNone
    → (store : Handle) (answer : CheckAnswer) → Judges (λ edit. r ≡ Ok edit) (λ none. r ≡ Err none) store answer
    → Judges Says SaysNone store answer
judges_said r Says SaysNone ok err store answer (inl e) = inl (e.0, allowed r Says ok store.seal.kept e.1, e.2)
judges_said r Says SaysNone ok err store answer (inr (inl e)) =
    inr (inl (e.0, e.1, not_edited r Says SaysNone ok err store.seal.kept e.0 e.2, e.3))
judges_said r Says SaysNone ok err store answer (inr (inr none)) = inr (inr none)
