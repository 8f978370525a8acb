-- The names of object types.
use Rattle.std.specs.Prelude.{◌&&◌, ℕ, Bool, not, List, map, bytes_eq, Option, Some, None, Result, Ok, Err}
use Rattle.std.specs.Prelude.{if◌then◌else◌, option_map}
use Rattle.std.specs.Char.{to_ascii_lowercase}
use Rattle.std.specs.List.{find, list_any}
use Rattle.sd_whole.specs.declared.types.Guid.{Guid}
use Rattle.sd_schema.specs.Row.{SchemaRow}
use Rattle.sd_schema.specs.declared.names.TypeNameFault.{TypeNameFault}
use Rattle.sd_schema.specs.declared.names.TypeNameFault.TheVariants.{Unknown, Ambiguous}

-- the text is the row's name but for the case of ASCII letters
abbrev pub is_named : List ℕ → SchemaRow → Bool
is_named text row = bytes_eq (map to_ascii_lowercase text) (map to_ascii_lowercase row.name)

abbrev pub same_guid : Guid → Guid → Bool
same_guid one other = bytes_eq one.bytes other.bytes

-- the text is a name of another object type
abbrev pub is_another : List ℕ → Guid → SchemaRow → Bool
is_another text guid row = is_named text row && not (same_guid row.guid guid)

-- the object type of the first row that the text names
abbrev pub first_named : List SchemaRow → List ℕ → Option Guid
first_named rows text = option_map (λ row. row.guid) (find (is_named text) rows)

-- this object type, unless the text names another one too; or that it names none
abbrev pub if_one : List SchemaRow → List ℕ → Option Guid → Result Guid TypeNameFault
if_one rows text None = Err Unknown
if_one rows text (Some guid) = if list_any (is_another text guid) rows then Err Ambiguous else Ok guid

-- the one object type that the text names, or that it names none, or two
abbrev pub guid_named : List SchemaRow → List ℕ → Result Guid TypeNameFault
guid_named rows text = if_one rows text (first_named rows text)
