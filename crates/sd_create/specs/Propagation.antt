-- What an object has after the descriptor of its container changed, as Windows propagates it: its own entries, and
-- after them what it inherits at its creation ([MS-DTYP] 2.5.3.4).
use Rattle.std.specs.Prelude.{ℕ, ◌+◌, ◌<◌, Bool, not, ◌&&◌, ◌||◌, bit_or, cond, if◌then◌else◌, List, ◌++◌, filter}
use Rattle.std.specs.Prelude.{length, Result, Ok, IsOk}
use Rattle.sd_sid.specs.Mapping.{MappingValue}
use Rattle.sd_sid.specs.Sid.{SidValue}
use Rattle.sd_acl.specs.declared.descriptor.DaclOf.{DaclOf}
use Rattle.sd_acl.specs.declared.descriptor.DaclOf.TheVariants.{Absent, Null, List as Entries}
use Rattle.sd_inheritance.specs.declared.kind.NodeKind.{NodeKind}
use Rattle.sd_whole.specs.Reading.{WholeAcl}
use Rattle.sd_whole.specs.Writing.{has_entries, is_without}
use Rattle.sd_whole.specs.declared.ace.WholeAce.{WholeAce}
use Rattle.sd_whole.specs.declared.descriptor.WholeDescriptor.{WholeDescriptor}
use Rattle.sd_whole.specs.declared.types.Guid.{Guid}
use Rattle.sd_wire.specs.Reading.{is_set}
use Rattle.sd_create.specs.Acl.{contains_inheritable, inherited}
use Rattle.sd_create.specs.Create.{◌>>=◌, acl_with, entries_of, present}
use Rattle.sd_create.specs.Entry.{NewValue, is_inherited}
use Rattle.sd_create.specs.declared.fault.CreateFault.{CreateFault}
use Rattle.sd_create.specs.declared.fault.CreateFault.TheVariants.{NoOwner, NoGroup}
use Rattle.sd_create.specs.declared.propagation.Inheritance.{Inheritance}

pub record InheritanceValue : Type 0 where
  pub parent : WholeDescriptor
  pub child : WholeDescriptor
  pub kind : NodeKind
  pub types : List Guid
  pub mapping : MappingValue

abbrev pub inheritance_of : Inheritance → InheritanceValue
inheritance_of i = record {
  parent = i.parent.now;
  child = i.child.now;
  kind = i.kind;
  types = i.types.now;
  mapping = i.mapping.now;
}

-- ---- a list

-- the object's own entries, as they are
abbrev pub own_entries : List WholeAce → List WholeAce
own_entries es = filter (λ e. not (is_inherited e)) es

-- null stays null; where there is no list, what is inherited is one, as at creation
abbrev pub renewed : NewValue → (parent : List WholeAce) → DaclOf (List WholeAce) → DaclOf (List WholeAce)
renewed o parent Absent = if contains_inheritable parent then Entries (inherited o parent) else Absent
renewed o parent Null = Null
renewed o parent (Entries es) = Entries (own_entries es ++ inherited o parent)

abbrev pub held : WholeAcl → DaclOf (List WholeAce)
held Absent = Absent
held Null = Null
held (Entries list) = Entries list.entries

-- a protected one stays as it is
abbrev pub acl_after : NewValue → (is_protected : Bool) → (parent : List WholeAce) → WholeAcl
    → Result WholeAcl CreateFault
acl_after o is_protected parent acl = if is_protected then Ok acl else acl_with (renewed o parent (held acl))

-- ---- the descriptor

-- the object, for which CREATOR OWNER and CREATOR GROUP are its owner and its group
abbrev pub child_object : InheritanceValue → SidValue → SidValue → NewValue
child_object i owner group =
    record { kind = i.kind; types = i.types; owner = owner; group = group; mapping = i.mapping }

-- PD, PS (2.4.6)
abbrev pub dacl_after : InheritanceValue → NewValue → Result WholeAcl CreateFault
dacl_after i o = acl_after o (is_set 0x1000 i.child.control) (entries_of i.parent.dacl) i.child.dacl

abbrev pub sacl_after : InheritanceValue → NewValue → Result WholeAcl CreateFault
sacl_after i o = acl_after o (is_set 0x2000 i.child.control) (entries_of i.parent.sacl) i.child.sacl

-- the parent's entries are in the list
abbrev pub takes : (is_protected : Bool) → (parent : List WholeAce) → WholeAcl → Bool
takes is_protected parent acl =
    not is_protected && contains_inheritable parent && (is_without acl || has_entries acl)

-- Control (2.4.6): as it was, and DI and SI where the parent's entries are in the list
abbrev pub control_after : InheritanceValue → ℕ
control_after i = bit_or (bit_or i.child.control
    (cond (takes (is_set 0x1000 i.child.control) (entries_of i.parent.dacl) i.child.dacl) 0x0400 0))
    (cond (takes (is_set 0x2000 i.child.control) (entries_of i.parent.sacl) i.child.sacl) 0x0800 0)

-- the object's descriptor after it inherited again, or the first of owner, group, SACL and DACL that is refused
abbrev pub descriptor_after : InheritanceValue → Result WholeDescriptor CreateFault
descriptor_after i =
    present NoOwner i.child.owner >>= λ owner.
    (present NoGroup i.child.group >>= λ group.
    (sacl_after i (child_object i owner group) >>= λ sacl.
    (dacl_after i (child_object i owner group) >>= λ dacl.
    Ok (record i.child { control = control_after i; sacl = sacl; dacl = dacl }))))

-- there are an owner and a group, and entries of which a list can be made
pub record CopiesEntries (i : InheritanceValue) : Type 0 where
  pub owner : IsOk (present NoOwner i.child.owner)
  pub group : IsOk (present NoGroup i.child.group)
  pub entries : 0 < length (entries_of i.parent.sacl) + length (entries_of i.child.sacl)
      + length (entries_of i.parent.dacl) + length (entries_of i.child.dacl)
