-- The words of a command line that name object types, with GUIDs in the place of names.
use Rattle.std.specs.Prelude.{◌≡◌, ℕ, List, [], ◌∷◌, ◌++◌, length, take, drop, Option, Some, None, is_some}
use Rattle.std.specs.Prelude.{Result, Ok, Err, if◌then◌else◌}
use Rattle.sd_usage.specs.Table.{option_named}
use Rattle.sd_usage.specs.declared.row.OptionName.{OptionName}
use Rattle.sd_usage.specs.declared.row.OptionName.TheVariants.{«Type»}
use Rattle.sd_usage.specs.declared.row.ProgramOption.{ProgramOption}
use Rattle.sd_schema.specs.Row.{SchemaRow}
use Rattle.sd_schema.specs.Texts.{tree_text, type_text}
use Rattle.sd_schema.specs.declared.names.TypeNameFault.{TypeNameFault}
use Rattle.sd_schema.specs.declared.words.WordError.{WordError}
use Rattle.sd_schema.specs.declared.words.WordError.TheVariants as word_error

-- ---- the words up to TREE

-- these words and one more, or its fault: it is the value of a `--type`
abbrev pub with_type : List (List ℕ) → Result (List ℕ) TypeNameFault → Result (List (List ℕ)) WordError
with_type begun (Ok text) = Ok (begun ++ text ∷ [])
with_type begun (Err fault) = Err (word_error.«Type» (length begun) fault)

-- these words and the value of an option: a GUID in the place of a name, if it is that of `--type`
abbrev pub with_value : List SchemaRow → List (List ℕ) → OptionName → List ℕ → Result (List (List ℕ)) WordError
with_value rows begun «Type» value = with_type begun (type_text rows value)
with_value rows begun option value = Ok (begun ++ value ∷ [])

-- the option, if it awaits a value
abbrev pub awaited_by : ProgramOption → Option OptionName
awaited_by option = if is_some option.value then Some option.name else None

-- these words, and those that follow them, of which the first is the value of an option that awaits one: from the first
-- on that is neither an option nor a value they stand as they are
abbrev pub words_from : List SchemaRow → Option OptionName → List (List ℕ) → List (List ℕ)
    → Result (List (List ℕ)) WordError
words_from rows awaited begun [] = Ok begun
words_from rows (Some option) begun (value ∷ words) =
    elim (with_value rows begun option value) [
      | Ok more ↦ words_from rows None more words
      | Err error ↦ Err error
    ]
words_from rows None begun (word ∷ words) =
    elim (option_named word) [
      | Some option ↦ words_from rows (awaited_by option) (begun ++ word ∷ []) words
      | None ↦ Ok (begun ++ word ∷ words)
    ]

-- the first word is the program's name
abbrev pub option_words : List SchemaRow → List (List ℕ) → Result (List (List ℕ)) WordError
option_words rows [] = Ok []
option_words rows (name ∷ words) = words_from rows None (name ∷ []) words

-- ---- TREE

-- these words, and TREE and what follows it
abbrev pub tree_words : List SchemaRow → List (List ℕ) → List (List ℕ) → Result (List (List ℕ)) WordError
tree_words rows begun [] = Ok begun
tree_words rows begun (tree ∷ words) =
    elim (tree_text rows tree) [
      | Ok own ↦ Ok (begun ++ own ∷ words)
      | Err found ↦ Err (word_error.Node found.0 found.1)
    ]

-- ---- all words

-- the words with GUIDs in the place of the names of object types: the values of `--type`, and TREE, which is the word
-- at this place; or the first name that is none
abbrev pub with_guids : List SchemaRow → ℕ → List (List ℕ) → Result (List (List ℕ)) WordError
with_guids rows tree words =
    elim (option_words rows (take tree words)) [
      | Ok begun ↦ tree_words rows begun (drop tree words)
      | Err error ↦ Err error
    ]

-- the error is this one, unless memory runs out
abbrev pub IsWordError : Result (List (List ℕ)) WordError → WordError → Type 0
IsWordError found (word_error.«Type» place fault) = found ≡ Err (word_error.«Type» place fault)
IsWordError found (word_error.Node place fault) = found ≡ Err (word_error.Node place fault)
IsWordError found word_error.Memory = Unit {0}
