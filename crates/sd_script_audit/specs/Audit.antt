-- The output of an audit: a script whose checks are kept as queries, and answered at the end by all that was published.
-- By how many workers they are answered is not a word of it, but for the line of an opening.
use Rattle.std.specs.Prelude.{◌≡◌, ◌⊎◌, ℕ, Bool, false, List, [], ◌∷◌, ◌++◌, length, map, None, Ok, Err, MatchBool}
use Rattle.std.specs.Prelude.{codes}
use Rattle.std.specs.Str.Lines.{lines}
use Rattle.sd_edit.specs.declared.edit.Edit.{Edit as Edits}
use Rattle.sd_edit.specs.declared.opening.Opening.{Opening}
use Rattle.sd_edit.specs.Machine.{accepted}
use Rattle.sd_edit.specs.declared.request.Request.TheVariants.{Check, Edit, Publish}
use Rattle.sd_store.specs.Audits.{reply_by}
use Rattle.sd_store.specs.declared.query.Query.{Query}
use Rattle.sd_answer.specs.VerdictLines.{fault_line}
use Rattle.sd_answer.specs.declared.forms.TheConstants.{PUBLISHED, TOLD}
use Rattle.sd_line.specs.Line.{LineOf, form}
use Rattle.sd_line.specs.Printed.{printed}
use Rattle.sd_line.specs.declared.print.Style.{Style}
use Rattle.sd_lines.specs.Answers.{AreAnswered}
use Rattle.sd_script.specs.Command.{line_asks}
use Rattle.sd_script.specs.Expect.{expects}
use Rattle.sd_script.specs.Fault.{line_of_fault}
use Rattle.sd_script.specs.Lines.{is_silent}
use Rattle.sd_script.specs.Output.{IsDone, IsOpened, is_open, script_options_of}
use Rattle.sd_script.specs.Printed.{style_in}
use Rattle.sd_script.specs.Reply.{check_line, counted_line, seen_line}
use Rattle.sd_script.specs.ScriptCounts.{no_lines, tallied}
use Rattle.sd_script.specs.declared.line_request.LineRequest.{LineRequest}
use Rattle.sd_script.specs.declared.line_request.LineRequest.TheVariants.{Opening as Opens, Asking, Trimming}
use Rattle.sd_script.specs.declared.line_request.LineRequest.TheVariants.{Importing, Moving}
use Rattle.sd_script.specs.declared.fault.LineFault.{LineFault}
use Rattle.sd_script.specs.declared.script_options.ScriptOptions.{ScriptOptions}
use Rattle.sd_script.specs.declared.script_options.Notation.{Notation}
use Rattle.sd_script.specs.declared.session.Session.{Session}
use Rattle.sd_script.specs.declared.session.Session.TheVariants.{Closed, Opened}
use Rattle.sd_script.specs.declared.script_counts.ScriptCounts.{ScriptCounts}

-- what stands between two lines: the store, where one is open, and the queries so far
pub record Progress : Type 0 where
  pub store : Session
  pub queries : List Query

-- no store is open, one is opened in this manner, and nothing was asked
abbrev pub unopened : ScriptOptions → Progress
unopened options = record { store = Closed options; queries = [] }

-- what only a script does is a fault
abbrev pub IsForScripts : Progress → List LineOf → Progress → Type 0
IsForScripts old answer new = (answer ≡ fault_line (codes "audit") ∷ []) × (new ≡ old)

-- it is done as in a script
abbrev pub IsDoneAsInScript : Progress → LineRequest → List LineOf → Progress → Type 0
IsDoneAsInScript old asked answer new = IsDone old.store asked answer new.store × (new.queries ≡ old.queries)

-- what is asked is done as in a script, but that a store is opened for the workers, that a check is kept, and that an
-- audit has no notices and no answers to readers, explains and finds nothing, and has no views
abbrev pub IsDoneInAudit : ℕ → Progress → LineRequest → List LineOf → Progress → Type 0
IsDoneInAudit workers old (Opens readers root is_all) answer new = IsOpened
    (script_options_of old.store) workers root is_all answer new.store × (new.queries ≡ old.queries)
IsDoneInAudit workers old (Asking (Check reader path token asked)) answer new =
    (answer ≡ []) × (new
    ≡ record {
      store = old.store;
      queries = old.queries ++ record { path = path; token = token; asked = asked }
          ∷ [];
    })
IsDoneInAudit workers old (Asking (Edit edit)) answer new = IsDoneAsInScript old (Asking (Edit edit)) answer new
IsDoneInAudit workers old (Asking Publish) answer new = IsDoneAsInScript old (Asking Publish) answer new
IsDoneInAudit workers old (Trimming edit) answer new = IsDoneAsInScript old (Trimming edit) answer new
IsDoneInAudit workers old (Importing edit path given) answer new =
    IsDoneAsInScript old (Importing edit path given) answer new
IsDoneInAudit workers old (Moving edit source target) answer new =
    IsDoneAsInScript old (Moving edit source target) answer new
IsDoneInAudit workers old asked answer new = IsForScripts old answer new

-- a line has an answer and nothing is done: it is silent, or expects an answer, which scripts alone do, or has a
-- fault
abbrev pub IsToldInAudit : Notation → Bool → List ℕ → List LineOf → Type 0
IsToldInAudit notation is_open line told =
    MatchBool (is_silent line) (told ≡ []) (MatchBool (expects line) (told ≡ fault_line (codes "audit") ∷ [])
    ((fault : LineFault) × line_asks notation is_open line (Err fault) × (told ≡ line_of_fault fault ∷ [])))

-- any other line asks for something
abbrev pub AsksInAudit : Notation → Bool → List ℕ → LineRequest → Type 0
AsksInAudit notation is_open line asked =
    (is_silent line ≡ false) × (expects line ≡ false) × line_asks notation is_open line (Ok asked)

-- a line is answered: nothing is done, or what it asks for is
abbrev pub IsAnsweredInAudit : ℕ → Progress → List ℕ → List LineOf → Progress → Type 0
IsAnsweredInAudit workers old line answer new =
    (IsToldInAudit (script_options_of old.store).notation (is_open old.store) line answer × (new ≡ old))
    ⊎ ((asked : LineRequest) × AsksInAudit (script_options_of old.store).notation (is_open old.store) line asked
    × IsDoneInAudit workers old asked answer new)

-- the line of a last publish, where edits wait
abbrev pub last_publish : List Edits → ℕ → List LineOf
last_publish [] len = []
last_publish (edit ∷ edits) len = counted_line (form PUBLISHED) len ∷ []

-- the answer to a query by a journal
abbrev pub answer_line : Opening → List Edits → Query → LineOf
answer_line opening journal query = seen_line (length journal) (check_line (reply_by opening journal query))

-- the lines after the last line's answer: where a store is open, all that was accepted is published, its length is
-- known to readers, and each query is answered
abbrev pub end_of : Session → List Query → List LineOf
end_of (Closed options) queries = []
end_of (Opened notation m) queries =
    last_publish m.pending (length (accepted m)) ++ counted_line (form TOLD) (length (accepted m))
    ∷ map (answer_line m.opening (accepted m)) queries

-- ---- an audit, as far as it is carried out

pub record Audited : Type 0 where
  pub progress : Progress
  pub counts : ScriptCounts

-- before the first line none is open
abbrev pub before_first_line : ScriptOptions → Audited
before_first_line options = record { progress = unopened options; counts = no_lines }

-- a line is answered, and counted: a check that is kept by what it is answered by at its place, which is nothing
pub record IsNextInAudit (workers : ℕ) (old : Audited) (line : List ℕ) (answer : List LineOf) (new : Audited)
    : Type 0 where
  pub answered : IsAnsweredInAudit workers old.progress line answer new.progress
  pub counted : new.counts ≡ tallied line answer old.counts

-- and its answer is printed in this style
abbrev pub PrintsNextInAudit : Style → ℕ → Audited → List ℕ → List ℕ → Audited → Type 0
PrintsNextInAudit style workers old line text new =
    (answer : List LineOf) × IsNextInAudit workers old line answer new × (text ≡ printed style None answer)

-- one line after the other, and then the end, which is no line's answer and isn't counted
abbrev pub AreAnsweredInAudit : Style → ℕ → Audited → List (List ℕ) → List ℕ → ScriptCounts → Type 0
AreAnsweredInAudit style workers old lines output counts =
    (last : Audited) × (answers : List ℕ) × AreAnswered (PrintsNextInAudit style workers) old lines answers last
    × (output ≡ answers ++ printed style None (end_of last.progress.store last.progress.queries))
    × (counts ≡ last.counts)

-- the whole output of an audit by so many workers that is carried out and printed in this manner, and what is counted
-- of it
abbrev pub PrintsAuditAndCounts : ScriptOptions → ℕ → List ℕ → List ℕ → ScriptCounts → Type 0
PrintsAuditAndCounts options workers text output counts = AreAnsweredInAudit (style_in options.notation)
    workers (before_first_line options) (lines text) output counts

abbrev pub PrintsAudit : ScriptOptions → ℕ → List ℕ → List ℕ → Type 0
PrintsAudit options workers text output =
    (counts : ScriptCounts) × PrintsAuditAndCounts options workers text output counts
