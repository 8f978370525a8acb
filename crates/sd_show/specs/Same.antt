-- Whether two entries are equal in all that they have: type, flags, mask, object types, SID and data.
use Rattle.std.specs.Prelude.{Bool, true, false, ◌&&◌, ◌==◌, Option, Some, None, bytes_eq}
use Rattle.sd_acl.specs.Ace.{same_ace}
use Rattle.sd_sid.specs.Sid.{same_sid}
use Rattle.sd_whole.specs.Kind.{kind_number}
use Rattle.sd_whole.specs.declared.ace.OpaqueAce.{OpaqueAce}
use Rattle.sd_whole.specs.declared.ace.TypedAce.{TypedAce}
use Rattle.sd_whole.specs.declared.ace.WholeAce.{WholeAce}
use Rattle.sd_whole.specs.declared.ace.WholeAce.TheVariants.{Plain, Typed, Opaque}
use Rattle.sd_whole.specs.declared.types.Guid.{Guid}

abbrev pub same_guid : Option Guid → Option Guid → Bool
same_guid None None = true
same_guid None (Some b) = false
same_guid (Some a) None = false
same_guid (Some a) (Some b) = bytes_eq a.bytes b.bytes

abbrev pub same_typed : TypedAce → TypedAce → Bool
same_typed a b =
    kind_number a.kind == kind_number b.kind && a.flags.0 == b.flags.0 && a.mask == b.mask
    && same_guid a.types.object b.types.object && same_guid a.types.inherited b.types.inherited
    && same_sid a.sid b.sid && bytes_eq a.trailing b.trailing

abbrev pub same_opaque : OpaqueAce → OpaqueAce → Bool
same_opaque a b = a.kind == b.kind && a.flags.0 == b.flags.0 && bytes_eq a.body b.body

abbrev pub same_entry : WholeAce → WholeAce → Bool
same_entry (Plain a) (Plain b) = same_ace a b
same_entry (Plain a) (Typed b) = false
same_entry (Plain a) (Opaque b) = false
same_entry (Typed a) (Plain b) = false
same_entry (Typed a) (Typed b) = same_typed a b
same_entry (Typed a) (Opaque b) = false
same_entry (Opaque a) (Plain b) = false
same_entry (Opaque a) (Typed b) = false
same_entry (Opaque a) (Opaque b) = same_opaque a b
