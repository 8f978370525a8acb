-- What contracts see of a writer and of a checker.
use Rattle.std.specs.Prelude.{◌≡◌, ℕ, ◌<◌, ◌⊎◌, List, [], length, Option}
use Rattle.sd_edit.specs.declared.edit.Edit.{Edit}
use Rattle.sd_edit.specs.declared.reply.Answer.{Answer}
use Rattle.sd_store.specs.declared.error.AuditError.{AuditError}
use Rattle.sd_store.specs.declared.rule.KnownJournal.{KnownJournal}

-- a checker: its view in the shared store; its floor, the journal that it has seen or learned of; and its part of the
-- last audit, of which no public clause speaks
pub record Sight : Type 0 where
  pub view : KnownJournal
  pub floor : List Edit
  pub drawn : List Answer
  pub failed : Option AuditError

-- a read that gave no answer: nothing was found, or what was found is shorter than the floor, which stays
pub record IsGone (old new : Sight) : Type 0 where
  pub floor : new.floor ≡ old.floor
  pub looked : (new.view ≡ old.view) ⊎ (length new.view.journal < length old.floor)

-- a store, as its writer has it: the published journal and its marks, and the pending edits
pub record StoreState : Type 0 where
  pub journal : List Edit
  pub marks : List ℕ
  pub pending : List Edit

-- by the writer's view and the pending edits
abbrev pub state_of : KnownJournal → List Edit → StoreState
state_of v pending = record { journal = v.journal; marks = v.marks; pending = pending }

abbrev pub blank : StoreState
blank = record { journal = []; marks = []; pending = [] }

-- a notice: the journal that was published when it was made, and its marks
pub record Told : Type 0 where
  pub journal : List Edit
  pub marks : List ℕ
