-- The SACL or the DACL of a new object: ComputeACL of [MS-DTYP] 2.5.3.4, by its cases.
use Rattle.std.specs.Prelude.{Bool, false, not, ◌&&◌, ◌||◌, nat_lt, if◌then◌else◌, List, [], ◌++◌}
use Rattle.std.specs.Prelude.{Option, Some, None, Result, Ok, Err}
use Rattle.std.specs.Borrow.{Bor}
use Rattle.std.specs.List.{flat_map, list_any}
use Rattle.sd_acl.specs.Ace.{passes_on}
use Rattle.sd_acl.specs.declared.descriptor.DaclOf.{DaclOf}
use Rattle.sd_acl.specs.declared.descriptor.DaclOf.TheVariants.{Absent, Null, List as Entries}
use Rattle.sd_whole.specs.Entry.{flags_of, whole_acl_size}
use Rattle.sd_whole.specs.Kind.{has_object_types}
use Rattle.sd_whole.specs.Reading.{WholeAcl}
use Rattle.sd_whole.specs.Values.{WholeListValue}
use Rattle.sd_whole.specs.Writing.{has_entries, is_without}
use Rattle.sd_whole.specs.declared.ace.WholeAce.{WholeAce}
use Rattle.sd_whole.specs.declared.ace.WholeAce.TheVariants.{Plain, Typed, Opaque}
use Rattle.sd_whole.specs.declared.list.ListRevision.{ListRevision}
use Rattle.sd_whole.specs.declared.list.ListRevision.TheVariants.{Standard, DirectoryService}
use Rattle.sd_create.specs.Entry.{NewValue, given_copies, inherited_copies, own_copies}
use Rattle.sd_create.specs.declared.acl.Sources.{Sources}
use Rattle.sd_create.specs.declared.fault.CreateFault.{CreateFault}
use Rattle.sd_create.specs.declared.fault.CreateFault.TheVariants.{TooLarge}

-- what a list is made of
pub record SourcesValue : Type 0 where
  -- the entries of the parent's list: none where it has no list
  pub parent : List WholeAce
  -- the list that the creator gave
  pub given : WholeAcl
  -- the list that the token has for objects without one: none for a SACL
  pub otherwise : WholeAcl
  -- the creator's list takes nothing from the parent: PD or PS (2.4.6)
  pub is_protected : Bool
  -- DACL_AUTO_INHERIT or SACL_AUTO_INHERIT
  pub is_automatic : Bool
  -- DEFAULT_DESCRIPTOR_FOR_OBJECT
  pub is_default : Bool

-- a list that is borrowed, if there is one
abbrev pub lent_acl : Option (Bor WholeAcl) → WholeAcl
lent_acl None = Absent
lent_acl (Some acl) = acl.now

abbrev pub sources_of : Sources → SourcesValue
sources_of s = record {
  parent = s.parent.now;
  given = lent_acl s.given;
  otherwise = lent_acl s.otherwise;
  is_protected = s.is_protected;
  is_automatic = s.is_automatic;
  is_default = s.is_default;
}

-- objects or containers inherit one of the entries (ContainsInheritableACEs)
abbrev pub is_inheritable : WholeAce → Bool
is_inheritable e = passes_on (flags_of e)

abbrev pub contains_inheritable : List WholeAce → Bool
contains_inheritable es = list_any is_inheritable es

-- what the object inherits, in the parent's order (ComputeInheritedACLFromParent)
abbrev pub inherited : NewValue → List WholeAce → List WholeAce
inherited o parent = flat_map (inherited_copies o) parent

-- the parent's list alone counts: it is inherited, and the creator gave none, or one that counts only for lack of such
abbrev pub is_of_parent : SourcesValue → Bool
is_of_parent s = contains_inheritable s.parent && (is_without s.given || s.is_default)

-- the parent's entries follow what the creator gave
abbrev pub is_followed : SourcesValue → Bool
is_followed s = s.is_automatic && not s.is_protected

-- the entries that follow what the creator gave
abbrev pub following : NewValue → SourcesValue → List WholeAce
following o s = if is_followed s then inherited o s.parent else []

-- what the token has for objects without a list
abbrev pub otherwise_of : NewValue → WholeAcl → DaclOf (List WholeAce)
otherwise_of o Absent = Absent
otherwise_of o Null = Null
otherwise_of o (Entries list) = Entries (flat_map (own_copies o) list.entries)

abbrev pub of_given : NewValue → SourcesValue → WholeAcl → DaclOf (List WholeAce)
of_given o s Absent = otherwise_of o s.otherwise
of_given o s Null = Null
of_given o s (Entries list) = Entries (flat_map (given_copies o) list.entries ++ following o s)

-- ComputeACL
abbrev pub computed : NewValue → SourcesValue → DaclOf (List WholeAce)
computed o s = if is_of_parent s then Entries (inherited o s.parent) else of_given o s s.given

-- ---- the list's header

-- an entry with object types
abbrev pub is_object : WholeAce → Bool
is_object (Plain e) = false
is_object (Typed e) = has_object_types e.kind
is_object (Opaque e) = false

-- AclRevision: 4 with an object entry, else 2 (2.4.5)
abbrev pub revision_of : List WholeAce → ListRevision
revision_of es = if list_any is_object es then DirectoryService else Standard

-- a list takes at most 65,535 bytes (2.4.5, AclSize)
abbrev pub list_of : List WholeAce → Result WholeListValue CreateFault
list_of es =
    if nat_lt 65535 (whole_acl_size es) then Err TooLarge
    else Ok (record { revision = revision_of es; entries = es })

-- ---- the control bits that speak of it (2.4.6)

-- PD, PS: the creator's list counts, and takes nothing from the parent
abbrev pub stays_protected : SourcesValue → Bool
stays_protected s = not (is_of_parent s) && s.is_protected

-- DI, SI: the parent's entries were inherited automatically
abbrev pub is_automatic : SourcesValue → Bool
is_automatic s =
    s.is_automatic && contains_inheritable s.parent
    && (is_of_parent s || (has_entries s.given && not s.is_protected))

-- DD: what the token has
abbrev pub is_defaulted : SourcesValue → Bool
is_defaulted s = not (is_of_parent s) && is_without s.given && not (is_without s.otherwise)
