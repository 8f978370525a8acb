-- Nodes that keep what they had inherited elsewhere: the edit that adds one, and what a node keeps.
use Rattle.std.specs.Prelude.{◌≡◌, ◌⊎◌, ℕ, ◌<◌, ◌==◌, Bool, false, List, Option, Some, None, IsSome, Ok, slice_get}
use Rattle.std.specs.Prelude.{if◌then◌else◌}
use Rattle.std.specs.FinMap.{entries}
use Rattle.sd_sid.specs.Sid.{SidValue}
use Rattle.sd_acl.specs.Dacl.{Dacl}
use Rattle.sd_acl.specs.Descriptor.{DescriptorValue, HaveNamedFlags, IsDescriptor}
use Rattle.sd_acl.specs.declared.ace.Ace.{Ace}
use Rattle.sd_acl.specs.declared.descriptor.DaclOf.TheVariants.{List as Entries}
use Rattle.sd_path.specs.Names.{Names}
use Rattle.sd_path.specs.PathText.{path_of}
use Rattle.sd_wire.specs.Reading.{descriptor_read}
use Rattle.sd_wire.specs.Writing.{wire_of}
use Rattle.sd_edit.specs.Descriptors.{stored_dacl}
use Rattle.sd_edit.specs.History.{History}
use Rattle.sd_edit.specs.Journal.{replay}
use Rattle.sd_edit.specs.declared.edit.Edit.{Edit}
use Rattle.sd_edit.specs.declared.edit.Edit.TheVariants.{AddContainer, AddObject}
use Rattle.sd_edit.specs.declared.node.NodeDacl.{NodeDacl}
use Rattle.sd_edit.specs.declared.node.NodeDacl.TheVariants as own
use Rattle.sd_edit.specs.declared.node.NodeRow.{NodeRow}
use Rattle.sd_c.specs.declared.handle.kept.Kept.{Kept}
use Rattle.sd_c.specs.declared.not_done.EditArgument.{EditArgument}
use Rattle.sd_c.specs.declared.not_done.EditArgument.TheVariants as arguments
use Rattle.sd_c.specs.declared.not_done.NotDone.{NotDone}
use Rattle.sd_c.specs.declared.not_done.NotDone.TheVariants as reasons
use Rattle.sd_c.specs.Edits.{HasNode, IsNoDescriptor, IsNoNode, IsNoPath, IsNode}
use Rattle.sd_c.specs.Kept.{view_in}

-- ---- the lists of an argument

-- the entries of a list that isn't protected, if there is nothing else
abbrev pub only_list : Option SidValue → Option SidValue → Bool → Dacl → Option (List Ace)
only_list None None false (Entries entries) = Some entries
only_list owner group protected dacl = None

abbrev pub list_in : DescriptorValue → Option (List Ace)
list_in d = only_list d.owner d.group d.protected d.dacl

-- the bytes hold a descriptor with such a list alone
abbrev pub IsList : List ℕ → List Ace → Type 0
IsList bytes list = (d : DescriptorValue) × (descriptor_read bytes ≡ Ok d) × (list_in d ≡ Some list)

-- a descriptor with something else
abbrev pub HasNoList : List ℕ → Type 0
HasNoList bytes = (d : DescriptorValue) × (descriptor_read bytes ≡ Ok d) × (list_in d ≡ None)

abbrev pub IsNoList : EditArgument → List ℕ → NotDone → Type 0
IsNoList given bytes (reasons.Parts argument) = (argument ≡ given) × HasNoList bytes
IsNoList given bytes why = IsNoDescriptor given bytes why

-- the first of both that holds no list
abbrev pub IsNoLists : List ℕ → List ℕ → NotDone → Type 0
IsNoLists kept offer why =
    IsNoList arguments.Kept kept why
    ⊎ ((inherited : List Ace) × IsList kept inherited × IsNoList arguments.Offer offer why)

-- ---- the edit

-- the bytes hold a node's owner, its group and its own DACL, and what it keeps: this is its DACL
abbrev pub IsStoredNode : List ℕ → List ℕ → List ℕ → SidValue → SidValue → NodeDacl → Type 0
IsStoredNode own kept offer owner group dacl =
    (ordinary : NodeDacl) × (inherited : List Ace) × (offered : List Ace) × IsNode own owner group ordinary
    × IsList kept inherited × IsList offer offered × (dacl ≡ stored_dacl ordinary inherited offered)

-- the first that is invalid is reported: the node's own descriptor, and then both lists
abbrev pub IsNoStoredNode : List ℕ → List ℕ → List ℕ → NotDone → Type 0
IsNoStoredNode own kept offer why = IsNoNode own why ⊎ (HasNode own × IsNoLists kept offer why)

-- the number of the kind, the path, the descriptor and both lists are those of this edit
abbrev pub IsStoring : ℕ → List ℕ → List ℕ → List ℕ → List ℕ → Edit → Type 0
IsStoring kind path own kept offer (AddContainer at owner group dacl) =
    (kind ≡ 1) × (path_of path ≡ Ok at) × IsStoredNode own kept offer owner group dacl
IsStoring kind path own kept offer (AddObject at owner group dacl) =
    (kind ≡ 2) × (path_of path ≡ Ok at) × IsStoredNode own kept offer owner group dacl
IsStoring kind path own kept offer _ = ⊥

-- why there is none behind a path: the number of the kind, or what the node is given
abbrev pub IsNoAddition : ℕ → List ℕ → List ℕ → List ℕ → NotDone → Type 0
IsNoAddition kind own kept offer why =
    (((kind ≡ 1) ⊎ (kind ≡ 2)) × IsNoStoredNode own kept offer why)
    ⊎ (((kind ≡ 0) ⊎ (2 < kind)) × (why ≡ reasons.EditKind))

-- the first invalid argument is reported: the path, and then the rest
abbrev pub IsNoStoring : ℕ → List ℕ → List ℕ → List ℕ → List ℕ → NotDone → Type 0
IsNoStoring kind path own kept offer why =
    IsNoPath arguments.Path path why
    ⊎ ((at : Names) × (path_of path ≡ Ok at) × IsNoAddition kind own kept offer why)

-- ---- what a node keeps

-- of what it keeps the part with this number: 1 what it had inherited, 2 what was offered
abbrev pub kept_part : ℕ → NodeDacl → Option (List Ace)
kept_part part (own.Stored entries inherited offer) =
    if part == 1 then Some inherited else if part == 2 then Some offer else None
kept_part part dacl = None

-- a list, as a descriptor
abbrev pub descriptor_of_list : List Ace → DescriptorValue
descriptor_of_list list = record {
  owner = None;
  group = None;
  dacl = Entries list;
  protected = false;
  auto_req = false;
  auto_inherited = false;
}

-- the self-relative form of that part
abbrev pub IsKept : ℕ → NodeDacl → List ℕ → Type 0
IsKept part dacl bytes =
    (list : List Ace) × (kept_part part dacl ≡ Some list) × (bytes ≡ wire_of (descriptor_of_list list))

-- there is no such part, or there is one and out of memory
abbrev pub IsNotKept : Option (List Ace) → NotDone → Type 0
IsNotKept part why = ((part ≡ None) × (why ≡ reasons.NothingKept)) ⊎ (IsSome part × (why ≡ reasons.Memory))

-- this node is at the index in path order, after the journal
abbrev pub IsNodeAt : History → ℕ → NodeRow → Type 0
IsNodeAt h place row = (names : Names) × (slice_get (entries (replay h.opening h.journal)) place ≡ Some (names, row))

-- that part of what the node at this index keeps, after the journal that was published when the view was made
abbrev pub IsKeptAt : Kept → ℕ → ℕ → List ℕ → Type 0
IsKeptAt view place part bytes =
    (h : History) × (row : NodeRow) × (view_in view ≡ Some h) × IsNodeAt h place row × IsKept part row.dacl bytes

-- why there is none, the first that holds: no view is kept, no node is there, it keeps no such part, or out of memory
abbrev pub IsNotKeptAt : Kept → ℕ → ℕ → NotDone → Type 0
IsNotKeptAt view place part why =
    ((view_in view ≡ None) × (why ≡ reasons.ViewHandle))
    ⊎ ((h : History) × (view_in view ≡ Some h) × (slice_get (entries (replay h.opening h.journal)) place ≡ None)
    × (why ≡ reasons.NoNode))
    ⊎ ((h : History) × (row : NodeRow) × (view_in view ≡ Some h) × IsNodeAt h place row
    × IsNotKept (kept_part part row.dacl) why)

-- what was written of a list gives it again
abbrev pub ListsComeBack : Type 0
ListsComeBack =
    (list : List Ace) → IsDescriptor (descriptor_of_list list) → HaveNamedFlags (Entries list)
    → IsList (wire_of (descriptor_of_list list)) list
