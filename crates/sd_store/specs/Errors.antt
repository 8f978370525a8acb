-- Why a call on a store fails.
use Rattle.std.specs.Prelude.{◌≡◌, ℕ, Option, None, Some}
use Rattle.sd_edit.specs.declared.refusal.EditRefusal.{EditRefusal}
use Rattle.sd_edit.specs.declared.refusal.TreeError.{TreeError}
use Rattle.sd_edit.specs.declared.refusal.TreeError.TheVariants as tree
use Rattle.sd_edit.specs.Refusals.{is_early}
use Rattle.std.specs.Prelude.{false}
use Rattle.sd_edit.specs.Starts.{IsReaderCount, IsStartError}
use Rattle.sd_edit.specs.declared.start.StartError.{StartError}
use Rattle.sd_edit.specs.declared.start.StartError.TheVariants.{Readers, Root, Memory, Place}
use Rattle.sd_store.specs.declared.error.AuditError.{AuditError}
use Rattle.sd_store.specs.declared.error.AuditError.TheVariants as audit
use Rattle.sd_store.specs.declared.error.EditError.{EditError}
use Rattle.sd_store.specs.declared.error.EditError.TheVariants as edit

-- why an edit that is due this refusal didn't become pending: that refusal, or out of memory where none is due that is
-- found without it
abbrev pub IsEditError : EditError → Option EditRefusal → Type 0
IsEditError (edit.Refused refusal) due = due ≡ Some refusal
IsEditError edit.Memory due = is_early due ≡ false

-- the error of an edit that the draft didn't take
abbrev pub edit_error_of : TreeError → EditError
edit_error_of (tree.Refused refusal) = edit.Refused refusal
edit_error_of tree.Memory = edit.Memory

-- why a store of many threads didn't start: as one of one thread, or, where nothing refuses it, the shared cell gave no
-- place for a reader
abbrev pub IsStoreError : StartError → ℕ → Option EditRefusal → Type 0
IsStoreError Place readers due = IsReaderCount readers × (due ≡ None)
IsStoreError Readers readers due = IsStartError Readers readers due
IsStoreError (Root refusal) readers due = IsStartError (Root refusal) readers due
IsStoreError Memory readers due = IsStartError Memory readers due

-- each error of an audit has a number
abbrev pub audit_error_number : AuditError → ℕ
audit_error_number audit.Memory = 1
audit_error_number audit.Gate = 2
audit_error_number audit.Gone = 3
