-- How an audit is dealt: worker i answers the queries i, i + n, i + 2n and so on, and keeps its answers in its checker.
-- No public contract says so.
use Rattle.std.specs.Prelude.{◌≡◌, ℕ, ◌+◌, ◌*◌, ◌/◌, ◌%◌, ◌<◌, ◌≤◌, List, [], ◌∷◌, ◌++◌, length, slice_index_or, Option}
use Rattle.std.specs.Prelude.{Some, None}
use mathlib.Core.List.{IsPrefix}
use Rattle.sd_edit.specs.Journal.{IsLawful}
use Rattle.sd_edit.specs.declared.edit.Edit.{Edit}
use Rattle.sd_edit.specs.declared.opening.Opening.{Opening}
use Rattle.sd_edit.specs.Machine.{longer}
use Rattle.sd_edit.specs.declared.reply.Answer.{Answer}
use Rattle.sd_store.specs.Audits.{IsAnswer, reply_by}
use Rattle.sd_store.specs.Marks.{last_of}
use Rattle.sd_store.specs.Sights.{Sight}
use Rattle.sd_store.specs.declared.error.AuditError.{AuditError}
use Rattle.sd_store.specs.declared.error.AuditError.TheVariants.{Memory, Gate, Gone}
use Rattle.sd_store.specs.declared.query.Query.{Query}

-- ---- a worker

-- an answer just given: by all that the checker has now seen
pub record IsFresh (opening : Opening) (checker : Sight) (query : Query) (given : Answer) : Type 0 where
  pub whole : given.seen ≡ length checker.floor
  pub mark : given.seen ≡ last_of checker.view.marks
  pub reply : given.reply ≡ reply_by opening checker.floor query

-- one answer more
abbrev pub IsAnswered : Opening → Sight → Query → List Answer → List Answer → Type 0
IsAnswered opening checker query olds news = (given : Answer) × (news ≡ olds ++ given ∷ [])
    × IsFresh opening checker query given

-- the k-th of a worker's answers, to this query: by no less than `least`, and no less than the answers before it
pub record IsDrawnAt (opening : Opening) (checker : Sight) (least : ℕ) (query : Query) (answers : List Answer) (k : ℕ)
    (d : Answer) : Type 0 where
  pub given : IsAnswer opening checker query (slice_index_or answers k d)
  pub low : least ≤ (slice_index_or answers k d).seen
  pub rising : (j : ℕ) → j < k → (slice_index_or answers j d).seen ≤ (slice_index_or answers k d).seen

abbrev pub IsDrawn : Opening → Sight → ℕ → ℕ → ℕ → List Query → List Answer → Type 0
IsDrawn opening checker least worker step queries answers =
    (k : ℕ) (d : Answer) (q : Query) → k < length answers
    → IsDrawnAt opening checker least (slice_index_or queries (worker + k * step) q) answers k d

-- a floor that has grown to a valid journal, and stays where the worker has no query
pub record IsFurther (opening : Opening) (asked worker : ℕ) (old new : Sight) : Type 0 where
  pub floor : IsPrefix old.floor new.floor
  pub lawful : IsLawful opening new.floor
  pub idle : asked ≤ worker → new.floor ≡ old.floor

-- what a worker left in its checker: all its answers, or why it has none
abbrev pub IsWorked : Opening → Type 0 → List Query → ℕ → ℕ → Sight → Sight → Option AuditError → Type 0
IsWorked opening always queries step worker old new None =
    IsDrawn opening new (length old.floor) worker step queries new.drawn
    × (length queries ≤ worker + length new.drawn * step)
IsWorked opening always queries step worker old new (Some Gate) = ¬ always
IsWorked opening always queries step worker old new (Some Gone) = Unit {0}
IsWorked opening always queries step worker old new (Some Memory) = Unit {0}

pub record IsDone (opening : Opening) (always : Type 0) (queries : List Query) (step worker : ℕ)
    (old new : Sight) : Type 0 where
  pub further : IsFurther opening (length queries) worker old new
  pub worked : IsWorked opening always queries step worker old new new.failed

-- ---- all workers

abbrev pub AreDone : Opening → Type 0 → List Query → ℕ → List Sight → List Sight → Type 0
AreDone opening always queries step olds news =
    (i : ℕ) (d : Sight) → i < length olds
    → IsDone opening always queries step i (slice_index_or olds i d) (slice_index_or news i d)

-- the checker has learned of the journal
pub record IsInformed (journal : List Edit) (old new : Sight) : Type 0 where
  pub floor : new.floor ≡ longer old.floor journal
  pub own : IsPrefix old.floor new.floor
  pub told : IsPrefix journal new.floor

abbrev pub AreInformed : List Edit → List Sight → List Sight → Type 0
AreInformed journal olds news =
    (i : ℕ) (d : Sight) → i < length olds → IsInformed journal (slice_index_or olds i d) (slice_index_or news i d)

-- the j-th answer is answer j / n of worker j % n
abbrev pub IsDealt : List Sight → List Answer → Type 0
IsDealt checkers answers =
    (j : ℕ) (d : Answer) (e : Sight) → j < length answers
    → (j / length checkers < length (slice_index_or checkers (j % length checkers) e).drawn)
    × (slice_index_or answers j d ≡ slice_index_or (slice_index_or checkers (j % length checkers) e).drawn
    (j / length checkers) d)

-- a worker in the midst of its part, about to answer the query at this place
pub record IsUnderWay (opening : Opening) (queries : List Query) (worker step at : ℕ) (old now : Sight)
    (answers : List Answer) : Type 0 where
  pub place : at ≡ worker + length answers * step
  pub drawn : IsDrawn opening now (length old.floor) worker step queries answers
  pub floor : IsPrefix old.floor now.floor
  pub lawful : IsLawful opening now.floor
  pub idle : length queries ≤ worker → now.floor ≡ old.floor
