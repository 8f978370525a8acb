-- What comes of a script beside its output: what standard error is told, and whether it did what was asked for.
use Rattle.std.specs.Prelude.{◌≡◌, ◌⊎◌, ℕ, ◌==◌, Bool, ◌&&◌, ◌||◌, is_some, List, [], ◌++◌, Option, Some, None}
use Rattle.std.specs.Prelude.{if◌then◌else◌, codes}
use Rattle.std.specs.Fmt.{decimal}
use Rattle.sd_script.specs.declared.script_counts.ScriptCounts.{ScriptCounts}
use Rattle.sd_commands.specs.Diagnostic.{told_line}
use Rattle.sd_commands.specs.declared.command_answer.Outcome.{Outcome}
use Rattle.sd_commands.specs.declared.command_answer.Outcome.TheVariants.{Done, Refused, Fault}

-- what is told of a line, where there is one
abbrev pub line_note : List ℕ → Option ℕ → List ℕ
line_note what None = []
line_note what (Some number) = told_line (codes "line " ++ decimal number) what

-- a line, where it is to be told
abbrev pub line_if : Bool → Option ℕ → Option ℕ
line_if is_told line = if is_told then line else None

-- how many answers were expected, how many weren't given, and the first line that expected one of these
abbrev pub expect_note : (expected unmet : ℕ) → Option ℕ → List ℕ
expect_note expected unmet None =
    if expected == 0 then [] else told_line (codes "expect") (decimal expected ++ codes " expected, all met")
expect_note expected unmet (Some number) = told_line (codes "expect") (decimal expected ++ (codes " expected, "
    ++ (decimal unmet ++ (codes " not met, the first in line " ++ decimal number))))

-- why nothing was carried out, and what mends that
abbrev pub nothing_text : ScriptCounts → List ℕ
nothing_text counts =
    if counts.lines == 0 then codes "no line"
    else if counts.begins_as_utf16
    then codes "it is UTF-16, and a script is UTF-8: convert it by 'iconv -f UTF-16 -t UTF-8'"
    else codes "no line was carried out: 'sdstore help script' has the commands"

-- a script of which nothing was carried out is none
abbrev pub nothing_note : ScriptCounts → List ℕ
nothing_note counts =
    if counts.carried_out == 0 then told_line (codes "standard input") (nothing_text counts) else []

abbrev pub script_notes : Bool → ScriptCounts → List ℕ
script_notes strict counts =
    nothing_note counts
    ++ (line_note (codes "it begins with a byte order mark") (line_if counts.begins_with_mark (Some 1))
    ++ (line_note (codes "the node differs from its descriptor") counts.first_difference
    ++ (line_note (codes "the node's own entries are in canonical order now") counts.first_reordered
    ++ (line_note (codes "a fault or a refusal") (line_if strict counts.first_fault)
    ++ expect_note counts.expected counts.unmet counts.first_unmet))))

-- nothing is told where memory for it was refused
abbrev pub IsToldOfScript : Bool → ScriptCounts → List ℕ → Type 0
IsToldOfScript strict counts told = (told ≡ script_notes strict counts) ⊎ (told ≡ [])

-- some line imported a node whose entries aren't as they were elsewhere
abbrev pub differs : ScriptCounts → Bool
differs counts = is_some counts.first_difference || is_some counts.first_reordered

-- the worst of the lines: none that was carried out, or a fault or a refusal where that is asked for; or else an
-- expectation that wasn't met, or a difference where that is asked for
unfoldable pub script_outcome : Bool → ScriptCounts → Outcome
script_outcome strict counts =
    if counts.carried_out == 0 || (strict && is_some counts.first_fault) then Fault
    else (if is_some counts.first_unmet || (strict && differs counts) then Refused else Done)
