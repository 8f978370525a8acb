-- What the lines of a script are answered by.
use Rattle.std.specs.Prelude.{◌≡◌, ◌⊎◌, ℕ, Bool, true, false, List, [], ◌∷◌, ◌++◌, Option, Some, None, Ok, Err}
use Rattle.std.specs.Prelude.{MatchBool, if◌then◌else◌}
use Rattle.sd_edit.specs.Journal.{opening_within, root_refusal}
use Rattle.sd_edit.specs.declared.opening.Opening.{Opening}
use Rattle.sd_edit.specs.declared.opening.RootSpec.{RootSpec}
use Rattle.sd_edit.specs.Machine.{Machine, Steps, started}
use Rattle.sd_edit.specs.Starts.{IsReaderCount, IsStartError}
use Rattle.sd_edit.specs.declared.request.Reply.{Reply}
use Rattle.sd_edit.specs.declared.request.Request.TheVariants.{Edit}
use Rattle.sd_edit.specs.declared.start.StartError.{StartError}
use Rattle.sd_line.specs.Line.{LineOf, line_with}
use Rattle.sd_script.specs.Command.{line_asks}
use Rattle.sd_script.specs.Expect.{expect_line, expects, is_met, last_after}
use Rattle.sd_script.specs.Fault.{Reading, line_of_fault}
use Rattle.sd_script.specs.Importing.{IsImported, entries_at}
use Rattle.sd_script.specs.Lines.{is_silent, wants_lines}
use Rattle.sd_script.specs.Moving.{IsMoved}
use Rattle.sd_script.specs.Question.{IsSeen}
use Rattle.sd_script.specs.Reply.{alone, opened_line, reply_line, start_error_line, trimmed_line}
use Rattle.sd_script.specs.ScriptCounts.{no_lines, tallied}
use Rattle.sd_script.specs.View.{IsViewed}
use Rattle.sd_script.specs.declared.line_request.LineRequest.{LineRequest}
use Rattle.sd_script.specs.declared.line_request.LineRequest.TheVariants.{Opening as Opens, Asking, AskingNode}
use Rattle.sd_script.specs.declared.line_request.LineRequest.TheVariants.{Trimming, Viewing, Importing, Moving}
use Rattle.sd_script.specs.declared.script_state.ScriptState.{ScriptState}
use Rattle.sd_script.specs.declared.fault.LineFault.{LineFault}
use Rattle.sd_script.specs.declared.script_options.ScriptOptions.{ScriptOptions}
use Rattle.sd_script.specs.declared.session.Session.{Session}
use Rattle.sd_script.specs.declared.session.Session.TheVariants.{Closed, Opened}

-- whether a store is open
abbrev pub is_open : Session → Bool
is_open (Closed options) = false
is_open (Opened notation m) = true

-- in which manner a store is opened, or is open
abbrev pub script_options_of : Session → ScriptOptions
script_options_of (Closed options) = options
script_options_of (Opened notation m) =
    record { mapping = m.opening.mapping; limits = m.opening.limits; notation = notation }

-- the opening of a store with this root, in this manner
abbrev pub opening_in : ScriptOptions → RootSpec → Opening
opening_in options root = opening_within options.mapping root options.limits

-- what is asked opens a store
abbrev pub opens : LineRequest → Bool
opens (Opens readers root is_all) = true
opens asked = false

-- what a line asks for where this stands
abbrev pub line_asks_in : Session → List ℕ → Reading LineRequest
line_asks_in s line = line_asks (script_options_of s).notation (is_open s) line

-- a store with this root, which is all that its text says or not, is opened in this manner for so many readers, or
-- refused; after a refusal none is open
abbrev pub IsOpened : ScriptOptions → ℕ → RootSpec → Bool → List LineOf → Session → Type 0
IsOpened options readers root is_all answer new =
    (IsReaderCount readers × (root_refusal (opening_in options root) ≡ None)
    × (answer ≡ opened_line is_all readers ∷ [])
    × (new ≡ Opened options.notation (started (opening_in options root) readers)))
    ⊎ ((error : StartError) × IsStartError error readers (root_refusal (opening_in options root))
    × (alone (start_error_line error) ≡ Some answer) × (new ≡ Closed options))

-- what is asked of a store that is open is done: the lines of the answer, and what stands then
abbrev pub IsDone : Session → LineRequest → List LineOf → Session → Type 0
IsDone old (Opens readers root is_all) answer new = IsOpened (script_options_of old) readers root is_all answer new
IsDone (Opened notation old) (Asking request) answer new =
    (reply : Reply) × (machine : Machine) × Steps old request reply machine
    × (alone (reply_line reply) ≡ Some answer) × (new ≡ Opened notation machine)
IsDone (Opened notation old) (Trimming edit) answer new =
    (reply : Reply) × (machine : Machine) × Steps old (Edit edit) reply machine
    × (alone (trimmed_line reply) ≡ Some answer) × (new ≡ Opened notation machine)
IsDone (Opened notation old) (AskingNode reader path question) answer new =
    IsSeen notation old reader path question answer new
IsDone (Opened notation old) (Viewing view) answer new =
    IsViewed notation old view answer × (new ≡ Opened notation old)
IsDone (Opened notation old) (Importing edit path given) answer new =
    (reply : Reply) × (machine : Machine) × Steps old (Edit edit) reply machine
    × IsImported machine path given reply answer × (new ≡ Opened notation machine)
IsDone (Opened notation old) (Moving edit source target) answer new =
    (reply : Reply) × (machine : Machine) × Steps old (Edit edit) reply machine
    × IsMoved (entries_at old source) machine target reply answer × (new ≡ Opened notation machine)
IsDone old asked answer new = ⊥

-- a line that isn't silent is answered by what it asks for, or by its fault
abbrev pub IsTold : Session → List ℕ → List LineOf → Session → Type 0
IsTold old line told new =
    ((asked : LineRequest) × line_asks_in old line (Ok asked) × IsDone old asked told new)
    ⊎ ((fault : LineFault) × line_asks_in old line (Err fault) × (told ≡ line_of_fault fault ∷ []) × (new ≡ old))

-- the end of an answer: an empty line, if the line is answered by several lines, also after a fault
abbrev pub closing_of : List ℕ → List LineOf
closing_of line = if wants_lines line then line_with [] [] ∷ [] else []

-- a line is answered: by nothing, or by its answer and the end of that
abbrev pub IsAnswered : Session → List ℕ → List LineOf → Session → Type 0
IsAnswered old line answer new = MatchBool (is_silent line)
    ((answer ≡ []) × (new ≡ old))
    ((told : List LineOf) × IsTold old line told new × (answer ≡ told ++ closing_of line))

-- ---- a script, as far as it is carried out

-- before the first line none is open
abbrev pub before_first_line : ScriptOptions → ScriptState
before_first_line options = record { session = Closed options; last = None; counts = no_lines }

-- a line that expects an answer changes nothing. Any other is answered, and what it is answered by is then the last
abbrev pub IsAnsweredAfter : Session → Option (List LineOf) → List ℕ → List LineOf → Session → Option (List LineOf)
    → Type 0
IsAnsweredAfter old before line answer new last = MatchBool (expects line)
    ((answer ≡ expect_line (is_met (script_options_of old).notation.spelling before line) ∷ []) × (new ≡ old)
    × (last ≡ before))
    (IsAnswered old line answer new × (last ≡ last_after line answer before))

-- a line is answered, and counted
pub record IsNext (old : ScriptState) (line : List ℕ) (answer : List LineOf) (new : ScriptState) : Type 0 where
  pub answered : IsAnsweredAfter old.session old.last line answer new.session new.last
  pub counted : new.counts ≡ tallied line answer old.counts

-- what is asked is done, whatever it is answered by
abbrev pub IsMade : Session → LineRequest → Session → Type 0
IsMade (Opened notation old) (Asking request) new =
    (reply : Reply) × (machine : Machine) × Steps old request reply machine × (new ≡ Opened notation machine)
IsMade (Opened notation old) (Trimming edit) new =
    (reply : Reply) × (machine : Machine) × Steps old (Edit edit) reply machine × (new ≡ Opened notation machine)
IsMade (Opened notation old) (Importing edit path given) new =
    (reply : Reply) × (machine : Machine) × Steps old (Edit edit) reply machine × (new ≡ Opened notation machine)
IsMade (Opened notation old) (Moving edit source target) new =
    (reply : Reply) × (machine : Machine) × Steps old (Edit edit) reply machine × (new ≡ Opened notation machine)
IsMade old asked new = (answer : List LineOf) × IsDone old asked answer new

-- a line isn't answered, out of memory: nothing has changed, or what it asks for is done, without an answer
abbrev pub IsUntold : Session → List ℕ → Session → Type 0
IsUntold old line new = (new ≡ old) ⊎ ((asked : LineRequest) × line_asks_in old line (Ok asked) × IsMade old asked new)

-- a line isn't answered, out of memory: it isn't counted, and has no answer that could be expected
abbrev pub IsUnanswered : ScriptState → List ℕ → ScriptState → Type 0
IsUnanswered old line new =
    (new.counts ≡ old.counts) × (new.last ≡ old.last) × IsUntold old.session line new.session
