-- The descriptor of a node ([MS-DTYP] 2.4.6).
use Rattle.std.specs.Prelude.{Bool, true, false, Option, Some, None, List, []}
use Rattle.sd_acl.specs.declared.ace.Ace.{Ace}
use Rattle.sd_acl.specs.Descriptor.{DescriptorValue}
use Rattle.sd_acl.specs.Dacl.{Dacl}
use Rattle.sd_acl.specs.declared.descriptor.DaclOf.TheVariants.{Absent, Null, List as Entries}
use Rattle.sd_edit.specs.declared.node.NodeDacl.{NodeDacl}
use Rattle.sd_edit.specs.declared.node.NodeDacl.TheVariants as own
use Rattle.sd_edit.specs.declared.node.NodeRow.{NodeRow}

-- control bit PD
abbrev pub is_protected : NodeDacl → Bool
is_protected own.Null = false
is_protected (own.List protected entries) = protected
is_protected (own.Stored entries inherited offer) = false

-- the descriptor of a node with this DACL: a list has the flag of automatic inheritance, a null one no flag
abbrev pub descriptor_of_row : NodeRow → Option (List Ace) → DescriptorValue
descriptor_of_row row None = record {
  owner = Some row.owner;
  group = Some row.group;
  dacl = Null;
  protected = false;
  auto_req = false;
  auto_inherited = false;
}
descriptor_of_row row (Some entries) = record {
  owner = Some row.owner;
  group = Some row.group;
  dacl = Entries entries;
  protected = is_protected row.dacl;
  auto_req = false;
  auto_inherited = true;
}

-- the DACL that is given to a node, as that of a descriptor
abbrev pub own_list : NodeDacl → Dacl
own_list own.Null = Null
own_list (own.List protected entries) = Entries entries
own_list (own.Stored entries inherited offer) = Entries entries

-- the DACL that a descriptor gives a node: an absent one is an empty list that isn't protected
abbrev pub own_dacl : Bool → Dacl → NodeDacl
own_dacl protected Absent = own.List false []
own_dacl protected Null = own.Null
own_dacl protected (Entries entries) = own.List protected entries

-- a list that isn't protected, with what was inherited and what was offered where it was stored
abbrev pub stored_dacl : NodeDacl → List Ace → List Ace → NodeDacl
stored_dacl (own.List false entries) inherited offer = own.Stored entries inherited offer
stored_dacl dacl inherited offer = dacl

-- what was given to a node: its descriptor without what it inherits
abbrev pub own_descriptor_of_row : NodeRow → DescriptorValue
own_descriptor_of_row row = record {
  owner = Some row.owner;
  group = Some row.group;
  dacl = own_list row.dacl;
  protected = is_protected row.dacl;
  auto_req = false;
  auto_inherited = false;
}
