-- Texts that name object types, with GUIDs in the place of names.
use Rattle.std.specs.Prelude.{◌≡◌, ◌==◌, ◌+◌, ℕ, nat_lt, List, [], ◌∷◌, ◌++◌, length, Option, Some, None}
use Rattle.std.specs.Prelude.{Result, Ok, Err, if◌then◌else◌}
use Rattle.std.specs.List.{after_first, before_first, position_or_len, slice_split}
use Rattle.sd_whole.specs.declared.types.Guid.{Guid}
use Rattle.sd_whole_parse.specs.Guid.{guid_in}
use Rattle.sd_whole_text.specs.Guid.{guid_text}
use Rattle.sd_schema.specs.Names.{guid_named}
use Rattle.sd_schema.specs.Row.{SchemaRow}
use Rattle.sd_schema.specs.declared.names.TypeNameFault.{TypeNameFault}
use Rattle.sd_schema.specs.declared.texts.NodeError.{NodeError}
use Rattle.sd_schema.specs.declared.texts.NodeError.TheVariants as node_error
use Rattle.sd_schema.specs.declared.texts.TypeTextError.{TypeTextError}
use Rattle.sd_schema.specs.declared.texts.TypeTextError.TheVariants as text_error

-- ---- one object type

-- the text of a GUID ([MS-DTYP] 2.3.4.3), if there is one
abbrev pub text_of : Result Guid TypeNameFault → Result (List ℕ) TypeNameFault
text_of (Ok guid) = Ok (guid_text guid)
text_of (Err fault) = Err fault

-- a text that is a GUID stands as it is; of another the text of the GUID that it names
abbrev pub type_text : List SchemaRow → List ℕ → Result (List ℕ) TypeNameFault
type_text rows text =
    elim (guid_in text) [
      | Some guid ↦ Ok text
      | None ↦ text_of (guid_named rows text)
    ]

-- ---- TREE, `LEVEL:TYPE` with commas between ([MS-DTYP] 2.5.3.2, ObjectTypeList)

-- a type after its level
abbrev pub after_level : List ℕ → Result (List ℕ) TypeNameFault → Result (List ℕ) TypeNameFault
after_level level (Ok text) = Ok (level ++ 58 ∷ text)
after_level level (Err fault) = Err fault

-- the level and the name, of a text with a colon
abbrev pub level_and_name : List ℕ → Option (List ℕ × List ℕ)
level_and_name text =
    if nat_lt (position_or_len (λ b. b == 58) text) (length text)
    then Some (before_first (λ b. b == 58) text, after_first (λ b. b == 58) text) else None

-- a node, in which a GUID stands in the place of a name; a text without a colon names nothing
abbrev pub node_text : List SchemaRow → List ℕ → Result (List ℕ) TypeNameFault
node_text rows text =
    elim (level_and_name text) [
      | None ↦ Ok text
      | Some parts ↦ after_level parts.0 (type_text rows parts.1)
    ]

-- a comma, after the first node
abbrev pub with_comma : ℕ → List ℕ → List ℕ
with_comma place begun = if nat_lt 0 place then begun ++ 44 ∷ [] else begun

-- this text, which has so many nodes, and one more; or the fault of its name, and which node it is, from 0
abbrev pub with_node : List SchemaRow → ℕ → List ℕ → List ℕ → Result (List ℕ) (ℕ × TypeNameFault)
with_node rows place begun text =
    elim (node_text rows text) [
      | Ok own ↦ Ok (with_comma place begun ++ own)
      | Err fault ↦ Err (place, fault)
    ]

-- this text, and the nodes of the texts; or the first fault
abbrev pub nodes_text : List SchemaRow → ℕ → List ℕ → List (List ℕ) → Result (List ℕ) (ℕ × TypeNameFault)
nodes_text rows place begun [] = Ok begun
nodes_text rows place begun (text ∷ texts) =
    elim (with_node rows place begun text) [
      | Ok own ↦ nodes_text rows (place + 1) own texts
      | Err found ↦ Err found
    ]

-- the texts that commas part
abbrev pub between_commas : List ℕ → List (List ℕ)
between_commas text = slice_split (λ b. b == 44) text

abbrev pub tree_text : List SchemaRow → List ℕ → Result (List ℕ) (ℕ × TypeNameFault)
tree_text rows text = nodes_text rows 0 [] (between_commas text)

-- ---- what the code returns

-- the error is this fault, unless memory runs out
abbrev pub IsTextError : Result (List ℕ) TypeNameFault → TypeTextError → Type 0
IsTextError found (text_error.Name fault) = found ≡ Err fault
IsTextError found text_error.Memory = Unit {0}

abbrev pub IsNodeError : Result (List ℕ) (ℕ × TypeNameFault) → NodeError → Type 0
IsNodeError found (node_error.Name place fault) = found ≡ Err (place, fault)
IsNodeError found node_error.Memory = Unit {0}
