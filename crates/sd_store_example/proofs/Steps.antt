-- One more edit of a list, which is accepted or not, and the errors of a store that has started.
use Rattle.std.proofs.Common.{◌≡◌, ℕ, ◌+◌, ◌<◌, List, [], ◌∷◌, ◌++◌, length, take, drop, get_or, None}
use Rattle.std.proofs.Common.{sym, subst, ap, ◌∙◌}
use mathlib.Core.List.{IsPrefix}
use Rattle.std.proofs.lemmas.List.{take_more, take-append-drop}
use Rattle.sd_edit.specs.Journal.{IsLawful, refusal, root_refusal}
use Rattle.sd_edit.specs.declared.edit.Edit.{Edit}
use Rattle.sd_edit.specs.declared.opening.Opening.{Opening}
use Rattle.sd_edit.proofs.Journals.{lawful_push}
use Rattle.sd_store.specs.Errors.{IsEditError}
use Rattle.sd_store.specs.declared.error.EditError.{EditError}
use Rattle.sd_store_example.specs.Behind.{IsAskedError, IsAskError}
use Rattle.sd_store_example.specs.declared.error.AskError.{AskError}
use Rattle.sd_store_example.specs.declared.error.AskError.TheVariants as ask

pub started_before : (o : Opening) (edits : List Edit) → root_refusal o ≡ None
    → (error : AskError) → IsAskedError o edits error → IsAskError o edits error
started_before o edits fits (ask.Start _) why = absurd why
started_before o edits fits (ask.Edit _) why = (fits, why)
started_before o edits fits (ask.Publish _) why = (fits, why)
started_before o edits fits (ask.Gone _) why = (fits, why)

module _ (o : Opening) (edits : List Edit) (i : ℕ) (edit : Edit) (low : i < length edits)
    (is : edit ≡ get_or edits i edit) (journal pending : List Edit) (none : journal ≡ [])
    (waits : pending ≡ take i edits) (lawful : IsLawful o (take i edits)) where
  one_more : take (i + 1) edits ≡ take i edits ++ edit ∷ []
  one_more = take_more edits i edit low ∙ ap (λ e. take i edits ++ e ∷ []) (sym is)

  before : journal ++ pending ≡ take i edits
  before = ap (λ es. es ++ pending) none ∙ waits

  pub waits_still : pending ++ edit ∷ [] ≡ take (i + 1) edits
  waits_still = ap (λ es. es ++ edit ∷ []) waits ∙ sym one_more

  pub accepted_still : refusal o (journal ++ pending) edit ≡ None → IsLawful o (take (i + 1) edits)
  accepted_still fits =
      subst (λ es. IsLawful o es) (sym one_more)
      (lawful_push o (take i edits) edit lawful (ap (λ es. refusal o es edit) (sym before) ∙ fits))

  begins : IsPrefix (take i edits ++ edit ∷ []) edits
  begins = (drop (i + 1) edits, ap (λ es. es ++ drop (i + 1) edits) (sym one_more) ∙ take-append-drop (i + 1) edits)

  pub not_accepted : (error : EditError) → IsEditError error (refusal o (journal ++ pending) edit)
      → IsAskedError o edits (ask.Edit error)
  not_accepted error why = (
    take i edits,
    edit,
    record {
      begins = begins;
      lawful = lawful;
      why = subst (λ es. IsEditError error (refusal o es edit)) before why;
    },
  )
