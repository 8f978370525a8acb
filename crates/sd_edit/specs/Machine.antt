-- The machine of one thread: what each request does to it, and what is replied.
use Rattle.std.specs.Prelude.{◌≡◌, ℕ, ◌≤◌, ◌<◌, false, List, [], ◌∷◌, ◌++◌, length, take, nat_le, if◌then◌else◌}
use Rattle.std.specs.Prelude.{replicate, slice_set, slice_index_or, Option, Some, None, IsSome, option_map}
use Rattle.sd_acl.specs.Descriptor.{descriptor_of}
use Rattle.sd_edit.specs.Plain.{row_at}
use Rattle.sd_edit.specs.Journal.{refusal, replay}
use Rattle.sd_edit.specs.Refusals.{is_early}
use Rattle.sd_edit.specs.Answers.{answer, descriptor_at}
use Rattle.sd_edit.specs.declared.opening.Opening.{Opening}
use Rattle.sd_edit.specs.declared.edit.Edit.{Edit}
use Rattle.sd_edit.specs.declared.refusal.EditRefusal.{EditRefusal}
use Rattle.sd_edit.specs.declared.request.Request.{Request}
use Rattle.sd_edit.specs.declared.request.Request.TheVariants as asked
use Rattle.sd_edit.specs.declared.request.Reply.{Reply}
use Rattle.sd_edit.specs.declared.request.Reply.TheVariants.{Edited, Refused, Published, Told, Learned, Answered}
use Rattle.sd_edit.specs.declared.request.Reply.TheVariants.{Shown, NoReader, NoNotice, Memory}

-- the edits that are seen, those that are pending, and for each reader its floor: the journal that it has seen
pub record Machine : Type 0 where
  pub opening : Opening
  pub published : List Edit
  pub pending : List Edit
  pub floors : List (List Edit)

-- with no edit yet, and so many readers, who have seen none
abbrev pub started : Opening → ℕ → Machine
started opening readers = record { opening = opening; published = []; pending = []; floors = replicate readers [] }

-- all edits that were accepted: those that are seen, and then those that are pending
abbrev pub accepted : Machine → List Edit
accepted m = m.published ++ m.pending

-- why an edit is refused, if it is
abbrev pub due : Machine → Edit → Option EditRefusal
due m edit = refusal m.opening (accepted m) edit

abbrev pub IsReader : Machine → ℕ → Type 0
IsReader m reader = reader < length m.floors

abbrev pub floor_of : Machine → ℕ → List Edit
floor_of m reader = slice_index_or m.floors reader []

-- the longer of two journals
abbrev pub longer : List Edit → List Edit → List Edit
longer xs ys = if nat_le (length xs) (length ys) then ys else xs

-- ---- the changes

-- one more edit is pending
abbrev pub with_edit : Machine → Edit → Machine
with_edit m edit = record m { pending = m.pending ++ edit ∷ [] }

-- all pending edits are seen, at once
abbrev pub with_publish : Machine → Machine
with_publish m = record m { published = accepted m; pending = [] }

-- the reader has seen this journal
abbrev pub with_floor : Machine → ℕ → List Edit → Machine
with_floor m reader floor = record m { floors = slice_set m.floors reader floor }

-- the reader has seen the published journal
abbrev pub with_look : Machine → ℕ → Machine
with_look m reader = with_floor m reader m.published

-- ---- one request

-- the machine before, what is asked, what is replied, and the machine after. Out of memory is the one free choice:
-- of an edit that isn't due a refusal which is found without memory, of a publish, and of a show, to a reader that is
-- there, of a node. A desk's publish takes no memory; that of the store of many threads, whose audits have these steps
-- as their rule, may
abbrev pub Steps : Machine → Request → Reply → Machine → Type 0
Steps old (asked.Edit edit) Edited new = (due old edit ≡ None) × (new ≡ with_edit old edit)
Steps old (asked.Edit edit) (Refused refusal) new = (due old edit ≡ Some refusal) × (new ≡ old)
Steps old (asked.Edit edit) Memory new = (is_early (due old edit) ≡ false) × (new ≡ old)
Steps old asked.Publish (Published len) new = (len ≡ length (accepted old)) × (new ≡ with_publish old)
Steps old asked.Publish Memory new = new ≡ old
Steps old asked.Tell (Told len) new = (len ≡ length old.published) × (new ≡ old)
Steps old (asked.Learn reader len) NoReader new = (length old.floors ≤ reader) × (new ≡ old)
Steps old (asked.Learn reader len) NoNotice new = IsReader old reader × (length old.published < len) × (new ≡ old)
Steps old (asked.Learn reader len) (Learned floor) new =
    IsReader old reader × (len ≤ length old.published)
    × (floor ≡ length (longer (floor_of old reader) (take len old.published)))
    × (new ≡ with_floor old reader (longer (floor_of old reader) (take len old.published)))
Steps old (asked.Check reader path token mask) NoReader new = (length old.floors ≤ reader) × (new ≡ old)
Steps old (asked.Check reader path token mask) (Answered given) new =
    IsReader old reader
    × (given ≡ record { seen = length old.published; reply = answer old.opening old.published path token mask })
    × (new ≡ with_look old reader)
Steps old (asked.Show reader path) NoReader new = (length old.floors ≤ reader) × (new ≡ old)
Steps old (asked.Show reader path) (Shown seen descriptor) new =
    IsReader old reader × (seen ≡ length old.published)
    × (option_map descriptor_of descriptor ≡ descriptor_at old.opening.mapping (replay old.opening old.published) path)
    × (new ≡ with_look old reader)
Steps old (asked.Show reader path) Memory new =
    IsReader old reader × IsSome (row_at (replay old.opening old.published) path) × (new ≡ old)
Steps old request reply new = ⊥

-- ---- a list of requests

-- one after the other, each with its reply
abbrev pub Runs : Machine → List Request → List Reply → Machine → Type 0
Runs old [] [] new = new ≡ old
Runs old [] (reply ∷ replies) new = ⊥
Runs old (request ∷ requests) [] new = ⊥
Runs old (request ∷ requests) (reply ∷ replies) new =
    (between : Machine) × (Steps old request reply between × Runs between requests replies new)
