-- How a store starts, and why it doesn't.
use Rattle.std.specs.Prelude.{◌≡◌, ℕ, ◌≤◌, ◌<◌, ◌⊎◌, false, Option, Some}
use Rattle.sd_edit.specs.Refusals.{is_early}
use Rattle.sd_edit.specs.declared.refusal.EditRefusal.{EditRefusal}
use Rattle.sd_edit.specs.declared.refusal.TreeError.{TreeError}
use Rattle.sd_edit.specs.declared.refusal.TreeError.TheVariants as tree
use Rattle.sd_edit.specs.declared.start.StartError.{StartError}
use Rattle.sd_edit.specs.declared.start.StartError.TheVariants.{Readers, Root, Memory, Place}

-- each error's number
abbrev pub start_error_number : StartError → ℕ
start_error_number Readers = 1
start_error_number (Root refusal) = 2
start_error_number Memory = 3
start_error_number Place = 4

-- a store has 1 to 64 readers
abbrev pub IsReaderCount : ℕ → Type 0
IsReaderCount readers = (0 < readers) × (readers ≤ 64)

-- why a store of one thread didn't start with so many readers and a root that is due this refusal: the number of
-- readers comes first, out of memory only where no refusal is due that is found without it, and the last error never
abbrev pub IsStartError : StartError → ℕ → Option EditRefusal → Type 0
IsStartError Readers readers due = (readers ≡ 0) ⊎ (64 < readers)
IsStartError (Root refusal) readers due = IsReaderCount readers × (due ≡ Some refusal)
IsStartError Memory readers due = IsReaderCount readers × (is_early due ≡ false)
IsStartError Place readers due = ⊥

-- the error of a store whose tree wasn't opened
abbrev pub start_error_of : TreeError → StartError
start_error_of (tree.Refused refusal) = Root refusal
start_error_of tree.Memory = Memory
