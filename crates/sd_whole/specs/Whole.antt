-- What whole entries, lists and descriptors are: their numbers fit their fields, and their bytes are parsed as what
-- they are ([MS-DTYP] 2.4.4 to 2.4.6).
use Rattle.std.specs.Prelude.{◌≡◌, ℕ, ◌%◌, ◌^◌, ◌<◌, ◌≤◌, Bool, true, false, List, length, bit_and}
use Rattle.std.specs.Prelude.{Option, Some, None, IfSome}
use Rattle.std.specs.List.{AllByRecursion}
use Rattle.sd_sid.specs.Sid.{IsSid}
use Rattle.sd_acl.specs.Descriptor.{IsAce}
use Rattle.sd_acl.specs.declared.descriptor.DaclOf.TheVariants.{Absent, Null, List as Entries}
use Rattle.sd_whole.specs.declared.ace.OpaqueAce.{OpaqueAce}
use Rattle.sd_whole.specs.declared.ace.TypedAce.{TypedAce}
use Rattle.sd_whole.specs.declared.ace.WholeAce.{WholeAce}
use Rattle.sd_whole.specs.declared.ace.WholeAce.TheVariants.{Plain, Typed, Opaque}
use Rattle.sd_whole.specs.declared.descriptor.WholeDescriptor.{WholeDescriptor}
use Rattle.sd_whole.specs.declared.kind.WholeKind.{WholeKind}
use Rattle.sd_whole.specs.declared.types.Guid.{Guid}
use Rattle.sd_whole.specs.declared.types.ObjectTypes.{ObjectTypes}
use Rattle.sd_whole.specs.Entry.{whole_acl_size}
use Rattle.sd_whole.specs.Kind.{has_object_types, kind_of, plain_kind}
use Rattle.sd_whole.specs.Layout.{layout_read, no_types}
use Rattle.sd_whole.specs.Reading.{WholeAcl, kept_bits}
use Rattle.sd_whole.specs.Values.{WholeListValue}

-- a GUID has sixteen bytes (2.3.4.2)
abbrev pub IsGuid : Guid → Type 0
IsGuid guid = length guid.bytes ≡ 16

-- object types are there only where the kind has them
abbrev pub AreTypes : Bool → ObjectTypes → Type 0
AreTypes false types = types ≡ no_types
AreTypes true types = IfSome types.object IsGuid × IfSome types.inherited IsGuid

-- an entry with a layout: its AceSize is a multiple of 4, and it isn't plain
pub record IsTyped (e : TypedAce) : Type 0 where
  pub mask : e.mask < 2 ^ 32
  pub sid : IsSid e.sid
  pub types : AreTypes (has_object_types e.kind) e.types
  pub aligned : length e.trailing % 4 ≡ 0
  pub other : IfSome (plain_kind e.kind) (λ _. 0 < length e.trailing)

-- the body doesn't have the layout of the kind
abbrev pub HasNoLayout : Option WholeKind → List ℕ → Type 0
HasNoLayout None body = Unit {0}
HasNoLayout (Some kind) body = layout_read (has_object_types kind) body ≡ None

-- an entry without a layout: its AceSize is a multiple of 4, and it is neither an allow nor a deny
pub record IsOpaque (e : OpaqueAce) : Type 0 where
  pub other : 1 < e.kind
  pub aligned : length e.body % 4 ≡ 0
  pub without_layout : HasNoLayout (kind_of e.kind) e.body

abbrev pub IsWholeAce : WholeAce → Type 0
IsWholeAce (Plain e) = IsAce e
IsWholeAce (Typed e) = IsTyped e
IsWholeAce (Opaque e) = IsOpaque e

-- every entry is one, and together they fit a list
pub record IsWholeList (list : WholeListValue) : Type 0 where
  pub each : AllByRecursion IsWholeAce list.entries
  pub fit : whole_acl_size list.entries ≤ 65535

abbrev pub IsWholeAcl : WholeAcl → Type 0
IsWholeAcl Absent = Unit {0}
IsWholeAcl Null = Unit {0}
IsWholeAcl (Entries list) = IsWholeList list

-- a descriptor: of the control bits it has those that don't follow from what is there
pub record IsWholeDescriptor (d : WholeDescriptor) : Type 0 where
  pub control : bit_and d.control kept_bits ≡ d.control
  pub owner : IfSome d.owner IsSid
  pub group : IfSome d.group IsSid
  pub sacl : IsWholeAcl d.sacl
  pub dacl : IsWholeAcl d.dacl
