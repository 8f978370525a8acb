-- The rows of a schema file: which lines say what.
use Rattle.std.specs.Prelude.{◌≡◌, ◌==◌, ◌||◌, ◌&&◌, ◌+◌, ℕ, nat_lt, Bool, true, not, List, [], ◌∷◌, ◌++◌, length}
use Rattle.std.specs.Prelude.{Option, Some, None, Result, Ok, Err, bytes_eq, codes, if◌then◌else◌}
use Rattle.std.specs.List.{after_first, before_first, list_any}
use Rattle.std.specs.Str.{is_utf8}
use Rattle.sd_lines.specs.Lines.{lines_in}
use Rattle.sd_lines.specs.declared.ending.Ending.TheVariants.{Feed}
use Rattle.sd_whole.specs.declared.types.Guid.{Guid}
use Rattle.sd_whole_parse.specs.Guid.{guid_in}
use Rattle.sd_schema.specs.declared.fault.LineError.{LineError}
use Rattle.sd_schema.specs.declared.fault.LineError.TheVariants as line_error
use Rattle.sd_schema.specs.declared.fault.SchemaError.{SchemaError}
use Rattle.sd_schema.specs.declared.fault.SchemaError.TheVariants as schema_error
use Rattle.sd_schema.specs.declared.fault.SchemaFault.{SchemaFault}
use Rattle.sd_schema.specs.declared.fault.SchemaFault.TheVariants as fault

-- what one row says: this object type ([MS-DTYP] 2.3.4.3) has this name
pub record SchemaRow : Type 0 where
  pub guid : Guid
  pub name : List ℕ

-- ---- a line

-- what is before the first blank of a text, or all of it, and what is after it
abbrev pub first_part : List ℕ → List ℕ
first_part text = before_first (λ b. b == 32) text

abbrev pub rest_of : List ℕ → List ℕ
rest_of text = after_first (λ b. b == 32) text

-- the words with which a row begins
abbrev pub is_keyword : List ℕ → Bool
is_keyword word = bytes_eq word (codes "class") || bytes_eq word (codes "attribute") || bytes_eq word (codes "set")
    || bytes_eq word (codes "right")

-- a control character
abbrev pub is_control : ℕ → Bool
is_control c = nat_lt c 32 || (c == 127)

-- a name has at least one character, and no control character
abbrev pub is_name : List ℕ → Bool
is_name name = not (length name == 0) && not (list_any is_control name)

-- a name of a GUID, or which of both is missing
abbrev pub named_type : Option Guid → List ℕ → Result SchemaRow SchemaFault
named_type None name = Err fault.Guid
named_type (Some guid) name = if is_name name then Ok (record { guid = guid; name = name }) else Err fault.Name

-- the row that a text is: one of the words, a GUID and a name, with a blank between each two; or why it is none
abbrev pub text_row : List ℕ → Result SchemaRow SchemaFault
text_row text =
    if is_keyword (first_part text)
    then named_type (guid_in (first_part (rest_of text))) (rest_of (rest_of text))
    else Err fault.Keyword

abbrev pub row_in : List ℕ → Result SchemaRow SchemaFault
row_in line = if is_utf8 line then text_row line else Err fault.Utf8

-- an empty line and a comment say nothing
abbrev pub says_nothing : List ℕ → Bool
says_nothing [] = true
says_nothing (first ∷ line) = first == 35

-- ---- all lines

-- after these rows the one that a line says, if it says one; or why it is none
abbrev pub with_row : List SchemaRow → Result SchemaRow SchemaFault → Result (List SchemaRow) SchemaFault
with_row rows (Ok row) = Ok (rows ++ row ∷ [])
with_row rows (Err kind) = Err kind

abbrev pub line_in : List SchemaRow → List ℕ → Result (List SchemaRow) SchemaFault
line_in rows line = if says_nothing line then Ok rows else with_row rows (row_in line)

-- after these rows those of the lines, of which the first has this number; or the first line that is no row, and why
abbrev pub rows_from : ℕ → List SchemaRow → List (List ℕ) → Result (List SchemaRow) (ℕ × SchemaFault)
rows_from number rows [] = Ok rows
rows_from number rows (line ∷ lines) =
    elim (line_in rows line) [
      | Ok more ↦ rows_from (number + 1) more lines
      | Err kind ↦ Err (number, kind)
    ]

-- the rows of a text, whose lines are counted from 1
abbrev pub rows_in : List ℕ → Result (List SchemaRow) (ℕ × SchemaFault)
rows_in text = rows_from 1 [] (lines_in Feed text)

-- ---- what the code returns

-- the error is this fault, unless memory runs out
abbrev pub IsLineError : {X : Type 0} → Result X SchemaFault → LineError → Type 0
IsLineError found (line_error.Fault kind) = found ≡ Err kind
IsLineError found line_error.Memory = Unit {0}

abbrev pub IsSchemaError : {X : Type 0} → Result X (ℕ × SchemaFault) → SchemaError → Type 0
IsSchemaError found (schema_error.Fault line kind) = found ≡ Err (line, kind)
IsSchemaError found schema_error.Memory = Unit {0}
