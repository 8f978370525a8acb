-- The laws of whole descriptors' printed texts ([MS-DTYP] 2.5.1.1).
use Rattle.std.specs.Prelude.{◌≡◌, ℕ, ◌^◌, ◌<◌, List, [], slice_index, IfSome, Ok}
use Rattle.std.specs.List.{AllByRecursion}
use Rattle.sd_acl.specs.declared.descriptor.DaclOf.TheVariants.{Absent, Null, List as Entries}
use Rattle.sd_text.specs.declared.alias.Aliases.{Aliases}
use Rattle.sd_text.specs.declared.right_names.RightNames.{RightNames}
use Rattle.sd_whole.specs.Reading.{WholeAcl, whole_read}
use Rattle.sd_whole.specs.Whole.{IsWholeDescriptor}
use Rattle.sd_whole.specs.declared.ace.TypedAce.{TypedAce}
use Rattle.sd_whole.specs.declared.ace.WholeAce.{WholeAce}
use Rattle.sd_whole.specs.declared.ace.WholeAce.TheVariants.{Plain, Typed, Opaque}
use Rattle.sd_whole.specs.declared.descriptor.WholeDescriptor.{WholeDescriptor}
use Rattle.sd_whole_parse.specs.Acl.{list_of}
use Rattle.sd_whole_parse.specs.Descriptor.{whole_found}
use Rattle.sd_whole_text.specs.Descriptor.{whole_text}

-- ---- what a text says of a descriptor: all but the AclRevision of its lists (2.4.5)

-- the SACL or the DACL, with the AclRevision that its entries need: 4 with an object entry, else 2
abbrev pub acl_as_text : WholeAcl → WholeAcl
acl_as_text Absent = Absent
acl_as_text Null = Null
acl_as_text (Entries list) = Entries (list_of list.entries)

abbrev pub as_text_says : WholeDescriptor → WholeDescriptor
as_text_says d = record d { sacl = acl_as_text d.sacl; dacl = acl_as_text d.dacl }

-- ---- what the numbers of every descriptor are: a byte has 8 bits

abbrev pub AreBytes : List ℕ → Type 0
AreBytes bytes = AllByRecursion (λ byte. byte < 2 ^ 8) bytes

-- the flags, the GUIDs and the bytes after the SID
pub record HasBytes (e : TypedAce) : Type 0 where
  pub flags : e.flags.0 < 2 ^ 8
  pub object : IfSome e.types.object (λ guid. AreBytes guid.bytes)
  pub inherited : IfSome e.types.inherited (λ guid. AreBytes guid.bytes)
  pub trailing : AreBytes e.trailing

abbrev pub IsOfBytes : WholeAce → Type 0
IsOfBytes (Plain e) = Unit {0}
IsOfBytes (Typed e) = HasBytes e
IsOfBytes (Opaque e) = Unit {0}

-- what each entry of a list has
abbrev pub EachEntry : (WholeAce → Type 0) → WholeAcl → Type 0
EachEntry P Absent = Unit {0}
EachEntry P Null = Unit {0}
EachEntry P (Entries list) = AllByRecursion P list.entries

-- what each entry of a descriptor has
abbrev pub EachOf : (WholeAce → Type 0) → WholeDescriptor → Type 0
EachOf P d = EachEntry P d.dacl × EachEntry P d.sacl

-- ---- the laws

-- the printed text of a descriptor is parsed as that descriptor, whichever aliases a text may have, and whichever names
-- rights have
abbrev pub WholeTextsComeBack : Type 0
WholeTextsComeBack = (known : Aliases) (names : RightNames) (d : WholeDescriptor) (text : List ℕ) → IsWholeDescriptor d
    → EachOf IsOfBytes d → whole_text names d ≡ Ok text → whole_found known text ≡ Ok (as_text_says d, [])

-- what is parsed of bytes is a descriptor whose text comes back, if it has one
abbrev pub ParsedIsWhole : Type 0
ParsedIsWhole = (bytes : List ℕ) (d : WholeDescriptor) → ((i : ℕ) → slice_index bytes i < 256)
    → whole_read bytes ≡ Ok d → IsWholeDescriptor d × EachOf IsOfBytes d
