-- A command line whose object types have names: GUIDs in the place of the names that a schema file gives.
use Rattle.std.specs.Prelude.{◌≡◌, ℕ, ◌-◌, List, length, Option, Some, None, option_map, Ok, Err}
use Rattle.std.specs.Borrow.{Bor}
use Rattle.std.specs.Option.{option_and_then}
use Rattle.sd_answer.specs.Word.{texts}
use Rattle.sd_usage.specs.declared.row.TextCommand.{TextCommand}
use Rattle.sd_usage.specs.declared.row.TextCommand.TheVariants.{Types}
use Rattle.sd_schema.specs.Row.{SchemaRow, rows_in}
use Rattle.sd_schema.specs.Words.{with_guids}
use Rattle.sd_schema.specs.declared.words.WordError.TheVariants as word_error
use Rattle.sd_arguments.specs.CommandLine.{RequestValue, reading}
use Rattle.sd_command_line.specs.Names.{request_in}
use Rattle.sd_command_line.specs.declared.types_by_name.TypesFault.{TypesFault}
use Rattle.sd_command_line.specs.declared.types_by_name.TypesFault.TheVariants as fault

-- ---- TREE

-- the place of TREE among so many words, or the end
abbrev pub place_in : ℕ → TextCommand → ℕ → ℕ
place_in count Types left = count - left
place_in count question left = count

abbrev pub place_of : ℕ → Option RequestValue → ℕ
place_of count None = count
place_of count (Some request) = place_in count request.question (length request.arguments)

abbrev pub tree_place : List (Bor (List ℕ)) → ℕ
tree_place words = place_of (length words) (option_map (λ asked. asked.1) (option_and_then request_in (reading words)))

-- ---- all words

-- by the rows of this text these are the words with GUIDs
abbrev pub AreWithGuids : List ℕ → List (Bor (List ℕ)) → List (List ℕ) → Type 0
AreWithGuids text words own = (rows : List SchemaRow) × (rows_in text ≡ Ok rows)
    × (with_guids rows (tree_place words) (texts words) ≡ Ok own)

-- ---- why there are none

-- this line of the file is the first that is no row
abbrev pub IsSchemaFault : List ℕ → TypesFault → Type 0
IsSchemaFault text (fault.Row line kind) = rows_in text ≡ Err (line, kind)
IsSchemaFault text (fault.«Type» place name_fault) = ⊥
IsSchemaFault text (fault.Node place name_fault) = ⊥
IsSchemaFault text fault.Memory = Unit {0}

-- the file has a fault, or the words, by its rows
abbrev pub IsTypesFault : List ℕ → List (Bor (List ℕ)) → TypesFault → Type 0
IsTypesFault text words (fault.«Type» place name_fault) = (rows : List SchemaRow) × (rows_in text ≡ Ok rows)
    × (with_guids rows (tree_place words) (texts words) ≡ Err (word_error.«Type» place name_fault))
IsTypesFault text words (fault.Node place name_fault) = (rows : List SchemaRow) × (rows_in text ≡ Ok rows)
    × (with_guids rows (tree_place words) (texts words) ≡ Err (word_error.Node place name_fault))
IsTypesFault text words error = IsSchemaFault text error
