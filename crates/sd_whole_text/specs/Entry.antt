-- Entries as text ([MS-DTYP] 2.5.1.1, ace).
use Rattle.std.specs.Prelude.{ℕ, Bool, true, false, List, [], ◌++◌, Option, Some, None, unwrap_or, codes}
use Rattle.sd_text.specs.Canon.{sid_canon}
use Rattle.sd_text.specs.declared.right_names.RightNames.{RightNames}
use Rattle.sd_whole.specs.Kind.{has_object_types}
use Rattle.sd_whole.specs.declared.ace.WholeAce.{WholeAce}
use Rattle.sd_whole.specs.declared.ace.WholeAce.TheVariants.{Plain, Typed, Opaque}
use Rattle.sd_whole.specs.declared.kind.WholeKind.{WholeKind}
use Rattle.sd_whole.specs.declared.types.Guid.{Guid}
use Rattle.sd_whole.specs.declared.types.ObjectTypes.{ObjectTypes}
use Rattle.sd_whole_text.specs.Data.{data_text}
use Rattle.sd_whole_text.specs.Flags.{flags_text}
use Rattle.sd_whole_text.specs.Guid.{guid_text}
use Rattle.sd_whole_text.specs.Kind.{kind_of_plain, letters_of}
use Rattle.sd_whole_text.specs.Level.{trustee_text}
use Rattle.sd_whole_text.specs.Rights.{rights_text}

-- a GUID, if there is one
abbrev pub guid_field : Option Guid → List ℕ
guid_field None = []
guid_field (Some guid) = guid_text guid

-- the two fields of the GUIDs, which only entries with object types fill: ObjectType, InheritedObjectType
abbrev pub types_text : Bool → ObjectTypes → List ℕ
types_text false types = codes ";"
types_text true types = guid_field types.object ++ codes ";" ++ guid_field types.inherited

-- the fields before the GUIDs: type, flags, rights
unfoldable pub head_text : RightNames → WholeKind → ℕ → ℕ → List ℕ
head_text names kind flags mask = codes "(" ++ letters_of kind ++ codes ";" ++ flags_text kind flags ++ codes ";"
    ++ rights_text names kind mask ++ codes ";"

-- an entry with these names of rights, if it has a text
abbrev pub entry_text : RightNames → WholeAce → List ℕ
entry_text names (Plain e) = head_text names (kind_of_plain e.kind) e.flags.0 e.mask ++ codes ";;" ++ sid_canon e.sid
    ++ codes ")"
entry_text names (Typed e) = head_text names e.kind e.flags.0 e.mask ++ types_text (has_object_types e.kind) e.types
    ++ codes ";" ++ trustee_text e.kind e.sid ++ unwrap_or (data_text e) [] ++ codes ")"
entry_text names (Opaque e) = []
