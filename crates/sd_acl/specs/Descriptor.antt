-- Security descriptors as plain values ([MS-DTYP] 2.4.6).
use Rattle.std.specs.Prelude.{◌≡◌, ◌^◌, ◌<◌, ◌≤◌, bit_and, Bool, not, ◌&&◌, IsTrue, Option, IfSome, List}
use Rattle.std.specs.List.{AllByRecursion}
use Rattle.sd_sid.specs.Sid.{SidValue, IsSid}
use Rattle.sd_acl.specs.Ace.{acl_size_of, all_named}
use Rattle.sd_acl.specs.Dacl.{Dacl, IsAbsent}
use Rattle.sd_acl.specs.declared.ace.Ace.{Ace}
use Rattle.sd_acl.specs.declared.descriptor.DaclOf.TheVariants.{Absent, Null, List as Entries}
use Rattle.sd_acl.specs.declared.descriptor.Descriptor.{Descriptor}

-- a descriptor: whose it is, and what its DACL says
pub record DescriptorValue : Type 0 where
  pub owner : Option SidValue
  pub group : Option SidValue
  pub dacl : Dacl
  pub protected : Bool
  pub auto_req : Bool
  pub auto_inherited : Bool

abbrev pub descriptor_of : Descriptor → DescriptorValue
descriptor_of d = record {
  owner = d.owner;
  group = d.group;
  dacl = d.dacl;
  protected = d.protected;
  auto_req = d.auto_req;
  auto_inherited = d.auto_inherited;
}

-- what every entry is: its numbers fit their fields
pub record IsAce (e : Ace) : Type 0 where
  pub flags : e.flags.0 < 2 ^ 8
  pub mask : e.mask < 2 ^ 32
  pub sid : IsSid e.sid

-- every entry is one, and together they fit a list
pub record AreEntries (es : List Ace) : Type 0 where
  pub each : AllByRecursion IsAce es
  pub fit : acl_size_of es ≤ 65535

abbrev pub IsDacl : Dacl → Type 0
IsDacl Absent = Unit {0}
IsDacl Null = Unit {0}
IsDacl (Entries es) = AreEntries es

-- the entry has no flag beside those that have names
abbrev pub HasNamedFlags : Ace → Type 0
HasNamedFlags e = bit_and e.flags.0 all_named ≡ e.flags.0

-- nor has any entry of the DACL
abbrev pub HaveNamedFlags : Dacl → Type 0
HaveNamedFlags Absent = Unit {0}
HaveNamedFlags Null = Unit {0}
HaveNamedFlags (Entries es) = AllByRecursion HasNamedFlags es

-- what every descriptor is
pub record IsDescriptor (d : DescriptorValue) : Type 0 where
  pub owner : IfSome d.owner IsSid
  pub group : IfSome d.group IsSid
  pub dacl : IsDacl d.dacl
  pub without_a_dacl : IsAbsent d.dacl → IsTrue (not d.protected && not d.auto_req && not d.auto_inherited)
