-- What the arguments of an edit are parsed as.
use Rattle.std.specs.Prelude.{◌≡◌, ◌⊎◌, ℕ, ◌<◌, false, List, length, Some, None, IsSome, Ok, Err, IsOkAnd}
use Rattle.sd_sid.specs.Sid.{SidValue}
use Rattle.sd_sid.specs.SidBytes.{sid_reading}
use Rattle.sd_acl.specs.Descriptor.{DescriptorValue}
use Rattle.sd_wire.specs.Memory.{TakesMemory}
use Rattle.sd_wire.specs.Reading.{descriptor_read}
use Rattle.sd_path.specs.Names.{Names, is_root}
use Rattle.sd_path.specs.PathText.{path_of}
use Rattle.sd_edit.specs.Descriptors.{own_dacl}
use Rattle.sd_edit.specs.declared.edit.Edit.{Edit}
use Rattle.sd_edit.specs.declared.edit.Edit.TheVariants.{AddContainer, AddObject, SetOwner, SetGroup, SetDacl, Remove}
use Rattle.sd_edit.specs.declared.edit.Edit.TheVariants.{ProtectKeeping, Move}
use Rattle.sd_edit.specs.declared.node.NodeDacl.{NodeDacl}
use Rattle.sd_c.specs.Written.{IsNotUtf8}
use Rattle.sd_c.specs.declared.not_done.EditArgument.{EditArgument}
use Rattle.sd_c.specs.declared.not_done.EditArgument.TheVariants as arguments
use Rattle.sd_c.specs.declared.not_done.NotDone.{NotDone}
use Rattle.sd_c.specs.declared.not_done.NotDone.TheVariants as reasons

-- the bytes hold a descriptor with an owner and a group, which gives a node these
abbrev pub IsNode : List ℕ → SidValue → SidValue → NodeDacl → Type 0
IsNode bytes owner group dacl =
    (d : DescriptorValue) × (descriptor_read bytes ≡ Ok d) × (d.owner ≡ Some owner) × (d.group ≡ Some group)
    × (dacl ≡ own_dacl d.protected d.dacl)

-- the bytes hold a descriptor with an owner and a group
abbrev pub HasNode : List ℕ → Type 0
HasNode bytes = (owner : SidValue) × (group : SidValue) × (dacl : NodeDacl) × IsNode bytes owner group dacl

-- the bytes hold a descriptor with neither, which gives a node this DACL
abbrev pub IsDacl : List ℕ → NodeDacl → Type 0
IsDacl bytes dacl =
    (d : DescriptorValue) × (descriptor_read bytes ≡ Ok d) × (d.owner ≡ None) × (d.group ≡ None)
    × (dacl ≡ own_dacl d.protected d.dacl)

-- a SID is at the front of the bytes
abbrev pub IsSid : List ℕ → SidValue → Type 0
IsSid bytes sid = (n : ℕ) × (sid_reading bytes ≡ Ok (sid, n))

-- the number, the path and the value are those of this edit
abbrev pub IsEdit : ℕ → List ℕ → List ℕ → Edit → Type 0
IsEdit kind path value (AddContainer at owner group dacl) =
    (kind ≡ 1) × (path_of path ≡ Ok at) × IsNode value owner group dacl
IsEdit kind path value (AddObject at owner group dacl) =
    (kind ≡ 2) × (path_of path ≡ Ok at) × IsNode value owner group dacl
IsEdit kind path value (SetOwner at owner) = (kind ≡ 3) × (path_of path ≡ Ok at) × IsSid value owner
IsEdit kind path value (SetGroup at group) = (kind ≡ 4) × (path_of path ≡ Ok at) × IsSid value group
IsEdit kind path value (SetDacl at dacl) = (kind ≡ 5) × (path_of path ≡ Ok at) × IsDacl value dacl
IsEdit kind path value (Remove at) = (kind ≡ 6) × (path_of path ≡ Ok at) × (length value ≡ 0)
IsEdit kind path value (ProtectKeeping at) = (kind ≡ 7) × (path_of path ≡ Ok at) × (length value ≡ 0)
IsEdit kind path value (Move source target) = (kind ≡ 8) × (path_of path ≡ Ok source) × (path_of value ≡ Ok target)

-- a descriptor without an owner or without a group
abbrev pub LacksTrustee : List ℕ → Type 0
LacksTrustee bytes = (d : DescriptorValue) × (descriptor_read bytes ≡ Ok d) × ((d.owner ≡ None) ⊎ (d.group ≡ None))

-- one with an owner or a group
abbrev pub HasTrustee : List ℕ → Type 0
HasTrustee bytes = (d : DescriptorValue) × (descriptor_read bytes ≡ Ok d) × (IsSome d.owner ⊎ IsSome d.group)

-- the number is no edit's, or that of one that takes no value, and has one
abbrev pub IsNoKind : ℕ → List ℕ → Type 0
IsNoKind kind value = (kind ≡ 0) ⊎ (8 < kind) ⊎ (((kind ≡ 6) ⊎ (kind ≡ 7)) × (0 < length value))

-- why they are those of none, part by part; out of memory only for a part that takes some: the root's path and a SID
-- take none
abbrev pub IsNoPath : EditArgument → List ℕ → NotDone → Type 0
IsNoPath given bytes reasons.Memory = IsOkAnd (path_of bytes) (λ path. is_root path ≡ false)
IsNoPath given bytes (reasons.Utf8 argument place) = (argument ≡ given) × IsNotUtf8 bytes place
IsNoPath given bytes (reasons.Path argument fault) = (argument ≡ given) × (path_of bytes ≡ Err fault)
IsNoPath given bytes _ = ⊥

abbrev pub IsNoSid : List ℕ → NotDone → Type 0
IsNoSid bytes (reasons.Sid fault) = sid_reading bytes ≡ Err fault
IsNoSid bytes _ = ⊥

abbrev pub IsNoDescriptor : EditArgument → List ℕ → NotDone → Type 0
IsNoDescriptor given bytes reasons.Memory = TakesMemory bytes
IsNoDescriptor given bytes (reasons.Descriptor argument fault) =
    (argument ≡ given) × (descriptor_read bytes ≡ Err fault)
IsNoDescriptor given bytes _ = ⊥

abbrev pub IsNoNode : List ℕ → NotDone → Type 0
IsNoNode bytes reasons.Memory = TakesMemory bytes ⊎ HasNode bytes
IsNoNode bytes (reasons.Parts argument) = (argument ≡ arguments.Value) × LacksTrustee bytes
IsNoNode bytes why = IsNoDescriptor arguments.Value bytes why

abbrev pub IsNoDacl : List ℕ → NotDone → Type 0
IsNoDacl bytes reasons.Memory = TakesMemory bytes ⊎ ((dacl : NodeDacl) × IsDacl bytes dacl)
IsNoDacl bytes (reasons.Parts argument) = (argument ≡ arguments.Value) × HasTrustee bytes
IsNoDacl bytes why = IsNoDescriptor arguments.Value bytes why

-- why the value is invalid, by the kind of edit
abbrev pub IsNoValue : ℕ → List ℕ → NotDone → Type 0
IsNoValue kind value why =
    (((kind ≡ 1) ⊎ (kind ≡ 2)) × IsNoNode value why)
    ⊎ (((kind ≡ 3) ⊎ (kind ≡ 4)) × IsNoSid value why)
    ⊎ ((kind ≡ 5) × IsNoDacl value why)
    ⊎ ((kind ≡ 8) × IsNoPath arguments.Value value why)
    ⊎ (IsNoKind kind value × (why ≡ reasons.EditKind))

-- the first invalid argument is reported: the path, and then the number and the value
abbrev pub IsNoEdit : ℕ → List ℕ → List ℕ → NotDone → Type 0
IsNoEdit kind path value why =
    IsNoPath arguments.Path path why ⊎ ((at : Names) × (path_of path ≡ Ok at) × IsNoValue kind value why)
