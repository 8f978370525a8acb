-- Entries as bytes ([MS-DTYP] 2.4.4): a header of type, flags and AceSize, and a body after it.
use Rattle.std.specs.Prelude.{ℕ, ◌+◌, ◌*◌, Bool, true, false, is_some, cond, List, [], ◌∷◌, ◌++◌, length, sum_by}
use Rattle.std.specs.Prelude.{Option, Some, None}
use Rattle.std.specs.Int.{w16, w32, to_le_bytes}
use Rattle.sd_sid.specs.Mask.{holds}
use Rattle.sd_sid.specs.SidBytes.{bytes_of_sid}
use Rattle.sd_acl.specs.declared.ace.Ace.{Ace}
use Rattle.sd_wire.specs.Writing.{kind_byte}
use Rattle.sd_whole.specs.declared.ace.TypedAce.{TypedAce}
use Rattle.sd_whole.specs.declared.ace.WholeAce.{WholeAce}
use Rattle.sd_whole.specs.declared.ace.WholeAce.TheVariants.{Plain, Typed, Opaque}
use Rattle.sd_whole.specs.declared.types.Guid.{Guid}
use Rattle.sd_whole.specs.declared.types.ObjectTypes.{ObjectTypes}
use Rattle.sd_whole.specs.Kind.{kind_number, has_object_types}

-- inherit-only: the entry of these flags is for children alone (2.4.4.1, INHERIT_ONLY_ACE)
abbrev pub for_children_alone : ℕ → Bool
for_children_alone flags = holds flags 3

-- a GUID, if there is one (2.3.4.2)
abbrev pub guid_part : Option Guid → List ℕ
guid_part None = []
guid_part (Some guid) = guid.bytes

-- Flags says which GUIDs are there: 1 the ObjectType, 2 the InheritedObjectType (2.4.4.3)
abbrev pub types_word : ObjectTypes → ℕ
types_word types = cond (is_some types.object) 1 0 + cond (is_some types.inherited) 2 0

-- Flags and the GUIDs, where the kind has them
abbrev pub types_part : Bool → ObjectTypes → List ℕ
types_part false types = []
types_part true types = to_le_bytes w32 (types_word types) ++ (guid_part types.object ++ guid_part types.inherited)

-- the body of an allow or a deny: mask, SID (2.4.4.2 and 2.4.4.4)
abbrev pub plain_body : Ace → List ℕ
plain_body e = to_le_bytes w32 e.mask ++ bytes_of_sid e.sid

-- the body of an entry with a layout: mask, object types, SID, and the bytes after it (2.4.4.3 and 2.4.4.6)
abbrev pub typed_body : TypedAce → List ℕ
typed_body e =
    to_le_bytes w32 e.mask ++ (types_part (has_object_types e.kind) e.types ++ (bytes_of_sid e.sid ++ e.trailing))

-- the bytes of an entry with a layout: header and mask, object types, SID, and the bytes after it
abbrev pub typed_size_of : TypedAce → ℕ
typed_size_of e =
    8 + length (types_part (has_object_types e.kind) e.types) + (8 + 4 * length e.sid.subs) + length e.trailing

-- AceType
abbrev pub type_of : WholeAce → ℕ
type_of (Plain e) = kind_byte e.kind
type_of (Typed e) = kind_number e.kind
type_of (Opaque e) = e.kind

-- AceFlags
abbrev pub flags_of : WholeAce → ℕ
flags_of (Plain e) = e.flags.0
flags_of (Typed e) = e.flags.0
flags_of (Opaque e) = e.flags.0

-- what follows the header
abbrev pub body_of : WholeAce → List ℕ
body_of (Plain e) = plain_body e
body_of (Typed e) = typed_body e
body_of (Opaque e) = e.body

-- AceSize: the header, and the body
abbrev pub whole_ace_size : WholeAce → ℕ
whole_ace_size e = 4 + length (body_of e)

-- AclSize: the list's header, and its entries (2.4.5)
abbrev pub whole_acl_size : List WholeAce → ℕ
whole_acl_size es = 8 + sum_by whole_ace_size es

-- a header, and a body after it
unfoldable pub entry_form : ℕ → ℕ → List ℕ → List ℕ
entry_form type flags body = type ∷ flags ∷ (to_le_bytes w16 (4 + length body) ++ body)

-- an entry, with every bit of its flags
abbrev pub whole_entry_bytes : WholeAce → List ℕ
whole_entry_bytes e = entry_form (type_of e) (flags_of e) (body_of e)
