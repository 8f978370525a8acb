-- What an answer after edits is, and why there is none.
use Rattle.std.specs.Prelude.{◌≡◌, List, [], ◌∷◌, ◌++◌, length, None}
use mathlib.Core.List.{IsPrefix}
use Rattle.sd_edit.specs.Journal.{IsLawful, refusal, root_refusal}
use Rattle.sd_edit.specs.declared.edit.Edit.{Edit}
use Rattle.sd_edit.specs.declared.opening.Opening.{Opening}
use Rattle.sd_edit.specs.declared.reply.Answer.{Answer}
use Rattle.sd_store.specs.Audits.{reply_by}
use Rattle.sd_store.specs.Errors.{IsEditError, IsStoreError}
use Rattle.sd_store.specs.declared.error.EditError.{EditError}
use Rattle.sd_store.specs.declared.query.Query.{Query}
use Rattle.sd_store_example.specs.declared.error.AskError.{AskError}
use Rattle.sd_store_example.specs.declared.error.AskError.TheVariants as ask

-- the answer is by this journal, whose edits were each accepted in turn, and of which the given ones are a prefix
pub record IsBy (o : Opening) (edits : List Edit) (query : Query) (answer : Answer) (journal : List Edit) : Type 0 where
  pub begins : IsPrefix edits journal
  pub lawful : IsLawful o journal
  pub seen : answer.seen ≡ length journal
  pub reply : answer.reply ≡ reply_by o journal query

-- the answer is by such a journal
abbrev pub IsBehind : Opening → List Edit → Query → Answer → Type 0
IsBehind opening edits query answer = (journal : List Edit) × IsBy opening edits query answer journal

-- the edits before this one were accepted, and it wasn't, with this error
pub record IsNotAccepted (o : Opening) (edits before : List Edit) (edit : Edit) (error : EditError) : Type 0 where
  pub begins : IsPrefix (before ++ edit ∷ []) edits
  pub lawful : IsLawful o before
  pub why : IsEditError error (refusal o before edit)

-- why a store that has started gave no answer: an edit wasn't accepted, or all were, and a publish or a check failed
abbrev pub IsAskedError : Opening → List Edit → AskError → Type 0
IsAskedError o edits (ask.Start error) = ⊥
IsAskedError o edits (ask.Edit error) = (before : List Edit) × (edit : Edit) × IsNotAccepted o edits before edit error
IsAskedError o edits (ask.Publish error) = IsLawful o edits
IsAskedError o edits (ask.Gone error) = IsLawful o edits

-- the store didn't start, or it did, with a root that nothing refuses, and gave no answer
abbrev pub IsAskError : Opening → List Edit → AskError → Type 0
IsAskError o edits (ask.Start error) = IsStoreError error 1 (root_refusal o)
IsAskError o edits (ask.Edit error) = (root_refusal o ≡ None) × IsAskedError o edits (ask.Edit error)
IsAskError o edits (ask.Publish error) = (root_refusal o ≡ None) × IsAskedError o edits (ask.Publish error)
IsAskError o edits (ask.Gone error) = (root_refusal o ≡ None) × IsAskedError o edits (ask.Gone error)
