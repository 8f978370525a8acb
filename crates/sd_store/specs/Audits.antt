-- An audit: queries dealt among the checkers of a store, and what its answers are.
use Rattle.std.specs.Prelude.{◌≡◌, ℕ, ◌-◌, ◌%◌, ◌<◌, ◌≤◌, List, length, take, slice_index_or}
use mathlib.Core.List.{IsPrefix}
use Rattle.sd_edit.specs.Answers.{answer}
use Rattle.sd_edit.specs.Journal.{IsLawful}
use Rattle.sd_edit.specs.declared.edit.Edit.{Edit}
use Rattle.sd_edit.specs.declared.opening.Opening.{Opening}
use Rattle.sd_edit.specs.declared.reply.CheckReply.{CheckReply}
use Rattle.sd_edit.specs.Machine.{longer}
use Rattle.sd_edit.specs.declared.reply.Answer.{Answer}
use Rattle.sd_store.specs.Marks.{last_of}
use Rattle.sd_store.specs.Sights.{Sight}
use Rattle.sd_store.specs.declared.query.Query.{Query}

-- ---- one answer

-- the reply to a query by a journal
abbrev pub reply_by : Opening → List Edit → Query → CheckReply
reply_by opening journal query = answer opening journal query.path query.token query.asked

-- the length of a journal that was published, by these marks
abbrev pub IsMark : ℕ → List ℕ → Type 0
IsMark seen marks = (beginning : List ℕ) × IsPrefix beginning marks × (last_of beginning ≡ seen)

-- the answer is by a journal that was published, a beginning of what the checker has seen
pub record IsAnswer (opening : Opening) (checker : Sight) (query : Query) (given : Answer) : Type 0 where
  pub within : given.seen ≤ length checker.floor
  pub mark : IsMark given.seen checker.view.marks
  pub reply : given.reply ≡ reply_by opening (take given.seen checker.floor) query

-- ---- all answers

-- the j-th answer is that of checker j % n to the j-th query, n being the number of checkers: by no less than that
-- checker had seen before and learned of, and no less than its answer before this one
abbrev pub AreAnswers : Opening → List Query → List Edit → List Sight → List Sight → List Answer → Type 0
AreAnswers opening queries journal olds news answers =
    (j : ℕ) (d : Answer) (e : Sight) (q : Query) → j < length answers
    → IsAnswer opening (slice_index_or news (j % length olds) e) (slice_index_or queries j q)
    (slice_index_or answers j d)
    × (length (longer (slice_index_or olds (j % length olds) e).floor journal) ≤ (slice_index_or answers j d).seen)
    × (length olds ≤ j → (slice_index_or answers (j - length olds) d).seen ≤ (slice_index_or answers j d).seen)

-- what an audit makes of the checker at place i, of so many queries: its floor has grown, to a valid journal; without
-- a query for it, just to what it learned of
pub record HasGrown (opening : Opening) (asked : ℕ) (journal : List Edit) (i : ℕ) (old new : Sight) : Type 0 where
  pub floor : IsPrefix (longer old.floor journal) new.floor
  pub own : IsPrefix old.floor new.floor
  pub told : IsPrefix journal new.floor
  pub lawful : IsLawful opening new.floor
  pub idle : asked ≤ i → new.floor ≡ longer old.floor journal

abbrev pub HaveGrown : Opening → ℕ → List Edit → List Sight → List Sight → Type 0
HaveGrown opening asked journal olds news =
    (i : ℕ) (d : Sight) → i < length olds
    → HasGrown opening asked journal i (slice_index_or olds i d) (slice_index_or news i d)
