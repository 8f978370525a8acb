-- What a dump is for: as a script it makes the published tree again.
use Rattle.std.specs.Prelude.{◌≡◌, ◌≢◌, ℕ, false, List, [], ◌∷◌, length, None, codes}
use Rattle.std.specs.Str.Lines.{lines}
use Rattle.sd_edit.specs.Journal.{replay, root_refusal, IsLawful}
use Rattle.sd_edit.specs.Machine.{Machine}
use Rattle.sd_edit.specs.Starts.{IsReaderCount}
use Rattle.sd_answer.specs.VerdictLines.{fault_line}
use Rattle.sd_line.specs.Line.{LineOf}
use Rattle.sd_line.specs.Printed.{lines_text}
use Rattle.sd_script.specs.Expect.{expects}
use Rattle.sd_script.specs.Output.{IsAnswered, IsDone}
use Rattle.sd_script.specs.declared.line_request.LineRequest.TheVariants.{Viewing}
use Rattle.sd_script.specs.declared.script_options.ScriptOptions.{ScriptOptions}
use Rattle.sd_script.specs.declared.script_options.Notation.{Notation}
use Rattle.sd_script.specs.declared.session.Session.{Session}
use Rattle.sd_script.specs.declared.session.Session.TheVariants.{Closed, Opened}
use Rattle.sd_script.specs.declared.view.ViewRequest.TheVariants.{Dump}

-- the lines, which expect no answer, are answered one after the other, and the session is then `new`
abbrev pub Reaches : Session → List (List ℕ) → Session → Type 0
Reaches old [] new = new ≡ old
Reaches old (line ∷ lines) new =
    (answer : List LineOf) × (between : Session) × (expects line ≡ false) × IsAnswered old line answer between
    × Reaches between lines new

-- a machine as each run of a store has one: 1 to 64 readers, an opening that isn't refused, and accepted edits
pub record IsSound (m : Machine) : Type 0 where
  pub readers : IsReaderCount (length m.floors)
  pub accepted : root_refusal m.opening ≡ None
  pub lawful : IsLawful m.opening m.published

-- a store with the same published tree, within the same limits, for as many readers, without pending edits
pub record IsSameAgain (m again : Machine) : Type 0 where
  pub mapping : again.opening.mapping ≡ m.opening.mapping
  pub limits : again.opening.limits ≡ m.opening.limits
  pub tree : replay again.opening again.published ≡ replay m.opening m.published
  pub nothing_waits : again.pending ≡ []
  pub readers : length again.floors ≡ length m.floors

-- no store is open yet. One that is opened has the same mapping and limits, and lines are written as in the dump
abbrev pub same_script_options : Notation → Machine → ScriptOptions
same_script_options notation m = record { mapping = m.opening.mapping; limits = m.opening.limits; notation = notation }

-- the lines of a text, run as a script in the same manner, make the store again, and whatever they reach is just that
abbrev pub MakesAgain : Notation → Machine → List ℕ → Type 0
MakesAgain notation m text =
    (again : Machine) × IsSameAgain m again
    × Reaches (Closed (same_script_options notation m)) (lines text) (Opened notation again)
    × ((other : Session) → Reaches (Closed (same_script_options notation m)) (lines text) other
    → other ≡ Opened notation again)

-- the text of a dump does, unless the fault is what is answered
abbrev pub DumpMakesTheTreeAgain : Type 0
DumpMakesTheTreeAgain =
    (notation : Notation) (m : Machine) (answer : List LineOf) (new : Session) → IsSound m
    → IsDone (Opened notation m) (Viewing Dump) answer new → answer ≢ fault_line (codes "name") ∷ []
    → MakesAgain notation m (lines_text notation.spelling answer)
