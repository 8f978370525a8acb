-- What follows from the rules of the machine, as laws over all machines, requests and replies.
use Rattle.std.specs.Prelude.{◌≡◌, ℕ, ◌⊎◌, Bool, true, false, List, [], ◌++◌, length}
use Rattle.sd_check.specs.Token.{TokenValue}
use Rattle.sd_path.specs.Names.{Names}
use Rattle.sd_edit.specs.Answers.{answer}
use Rattle.sd_edit.specs.Journal.{IsLawful}
use Rattle.sd_edit.specs.declared.edit.Edit.{Edit}
use Rattle.sd_edit.specs.declared.opening.Opening.{Opening}
use Rattle.sd_edit.specs.Machine.{Machine, started, accepted, floor_of, Steps, Runs}
use Rattle.sd_edit.specs.declared.reply.Answer.{Answer}
use Rattle.sd_edit.specs.declared.request.Request.{Request}
use Rattle.sd_edit.specs.declared.request.Request.TheVariants.{Publish, Check}
use Rattle.sd_edit.specs.declared.request.Reply.{Reply}
use Rattle.sd_edit.specs.declared.request.Reply.TheVariants.{Edited, Refused, Published, Told, Learned, Answered}
use Rattle.sd_edit.specs.declared.request.Reply.TheVariants.{Shown, NoReader, NoNotice, Memory}

-- a journal extends each of its beginnings
abbrev pub Extends : List Edit → List Edit → Type 0
Extends journal beginning = (more : List Edit) × (journal ≡ beginning ++ more)

-- what a reader has seen is a beginning of the published journal, and nothing refuses an accepted edit at its place
pub record IsSound (m : Machine) : Type 0 where
  pub floors : (reader : ℕ) → Extends m.published (floor_of m reader)
  pub lawful : IsLawful m.opening (accepted m)

-- every machine that comes from a start is sound
abbrev pub RunsAreSound : Type 0
RunsAreSound =
    (opening : Opening) (readers : ℕ) (requests : List Request) (replies : List Reply) (m : Machine)
    → Runs (started opening readers) requests replies m → IsSound m

-- ---- what stays, and what only grows

abbrev pub OpeningStays : Type 0
OpeningStays =
    (old new : Machine) (requests : List Request) (replies : List Reply)
    → Runs old requests replies new → new.opening ≡ old.opening

abbrev pub PublishedGrows : Type 0
PublishedGrows =
    (old new : Machine) (requests : List Request) (replies : List Reply)
    → Runs old requests replies new → Extends new.published old.published

abbrev pub FloorsNeverFall : Type 0
FloorsNeverFall =
    (old new : Machine) (requests : List Request) (replies : List Reply) (reader : ℕ)
    → IsSound old → Runs old requests replies new → Extends (floor_of new reader) (floor_of old reader)

-- the published journal stays, or a publish adds just the pending edits, all at once
abbrev pub PublishIsWhole : Type 0
PublishIsWhole =
    (old new : Machine) (request : Request) (reply : Reply)
    → Steps old request reply new
    → (new.published ≡ old.published)
    ⊎ ((request ≡ Publish) × (new.published ≡ old.published ++ old.pending) × (new.pending ≡ []))

-- ---- replies

-- an answer to a check is that of the published journal, whose length it has, and which extends what the reader had
-- seen
abbrev pub AnswersAreOfThePublished : Type 0
AnswersAreOfThePublished =
    (old new : Machine) (reader : ℕ) (path : Names) (token : TokenValue) (asked : ℕ) (given : Answer)
    → IsSound old → Steps old (Check reader path token asked) (Answered given) new
    → (given.reply ≡ answer old.opening old.published path token asked)
    × (given.seen ≡ length old.published)
    × Extends old.published (floor_of old reader)
    × (floor_of new reader ≡ old.published)

-- a reply that says that something wasn't done
abbrev pub is_failure : Reply → Bool
is_failure Edited = false
is_failure (Refused refusal) = true
is_failure (Published len) = false
is_failure (Told len) = false
is_failure (Learned floor) = false
is_failure (Answered given) = false
is_failure (Shown seen descriptor) = false
is_failure NoReader = true
is_failure NoNotice = true
is_failure Memory = true

abbrev pub FailureChangesNothing : Type 0
FailureChangesNothing =
    (old new : Machine) (request : Request) (reply : Reply)
    → Steps old request reply new → is_failure reply ≡ true → new ≡ old
