-- The output of a script: each answer as a text, or as an object of JSON for each of its lines.
use Rattle.std.specs.Prelude.{◌≡◌, ℕ, Bool, ◌&&◌, List, Some, None, if◌then◌else◌, codes, take}
use Rattle.std.specs.Str.Lines.{lines}
use Rattle.sd_line.specs.Line.{LineOf}
use Rattle.sd_line.specs.Printed.{TagOf, printed}
use Rattle.sd_line.specs.declared.print.Style.{Style}
use Rattle.sd_lines.specs.Answers.{AreAnswered}
use Rattle.sd_script.specs.Ids.{asked_of, has_id}
use Rattle.sd_script.specs.Lines.{word_len}
use Rattle.sd_script.specs.Output.{IsNext, before_first_line}
use Rattle.sd_script.specs.declared.script_state.ScriptState.{ScriptState}
use Rattle.sd_script.specs.declared.script_options.Notation.{Notation}
use Rattle.sd_script.specs.declared.script_options.ScriptOptions.{ScriptOptions}
use Rattle.sd_script.specs.declared.script_counts.ScriptCounts.{ScriptCounts}

abbrev pub style_in : Notation → Style
style_in notation = record { spelling = notation.spelling; output = notation.output }

-- with ids, what each line of the answer to a line begins with
abbrev pub tag_in : (has_ids : Bool) → List ℕ → TagOf
tag_in has_ids line =
    if has_ids && has_id line then Some (codes "id", 32, take (word_len line) line) else None

-- and what is asked
abbrev pub asked_in : (has_ids : Bool) → List ℕ → List ℕ
asked_in has_ids line = if has_ids then asked_of line else line

-- a line is answered, and counted, and its answer printed
abbrev pub IsNextServed : (has_ids : Bool) → Style → ScriptState → List ℕ → List ℕ → ScriptState → Type 0
IsNextServed has_ids style old line text new =
    (answer : List LineOf) × IsNext old (asked_in has_ids line) answer new
    × (text ≡ printed style (tag_in has_ids line) answer)

-- the whole output of a script that is carried out in this manner
abbrev pub PrintsAndLeaves : (has_ids : Bool) → ScriptOptions → List ℕ → List ℕ → ScriptState → Type 0
PrintsAndLeaves has_ids options text output last = AreAnswered (IsNextServed has_ids (style_in options.notation))
    (before_first_line options) (lines text) output last

abbrev pub PrintsServed : (has_ids : Bool) → ScriptOptions → List ℕ → List ℕ → Type 0
PrintsServed has_ids options text output = (last : ScriptState) × PrintsAndLeaves has_ids options text output last

-- and what is counted of it
abbrev pub PrintsAndCountsServed : (has_ids : Bool) → ScriptOptions → List ℕ → List ℕ → ScriptCounts → Type 0
PrintsAndCountsServed has_ids options text output counts =
    (last : ScriptState) × PrintsAndLeaves has_ids options text output last × (counts ≡ last.counts)
