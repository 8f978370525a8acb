-- What a node inherits, and its DACL ([MS-DTYP] 2.5.3.4).
use Rattle.std.specs.Prelude.{Bool, true, false, ◌&&◌, if◌then◌else◌, bit_or, List, [], ◌∷◌, ◌++◌, map}
use Rattle.std.specs.Prelude.{Option, Some, None}
use Rattle.std.specs.List.{flat_map}
use Rattle.sd_sid.specs.Mapping.{MappingValue}
use Rattle.sd_sid.specs.Sid.{SidValue}
use Rattle.sd_acl.specs.Ace.{same_ace}
use Rattle.sd_acl.specs.Canonical.{canonical_order}
use Rattle.sd_acl.specs.declared.ace.Ace.{Ace}
use Rattle.sd_inheritance.specs.Inheritance.{creator_group, creator_owner, pass_on}
use Rattle.sd_inheritance.specs.declared.kind.NodeKind.{NodeKind}
use Rattle.sd_edit.specs.declared.node.NodeDacl.{NodeDacl}
use Rattle.sd_edit.specs.declared.node.NodeDacl.TheVariants.{Null, List as Entries, Stored}
use Rattle.sd_edit.specs.declared.node.NodeRow.{NodeRow}

-- A DACL is the list of its entries, and None where it is null

-- what each entry of a DACL hands on to a child, in order; a null one hands on nothing
abbrev pub handed_to : MappingValue → NodeKind → SidValue → SidValue → Option (List Ace) → List Ace
handed_to g kind owner group None = []
handed_to g kind owner group (Some above) = flat_map (pass_on g kind owner group) above

-- what the parent's DACL hands on to the node
abbrev pub handed_on : MappingValue → NodeRow → Option (List Ace) → List Ace
handed_on g row above = handed_to g row.kind row.owner row.group above

-- ---- what a node keeps that it had inherited elsewhere

abbrev pub same_list : List Ace → List Ace → Bool
same_list [] [] = true
same_list [] (f ∷ fs) = false
same_list (e ∷ es) [] = false
same_list (e ∷ es) (f ∷ fs) = same_ace e f && same_list es fs

-- what a parent offers to children of the kind: what it hands on before their owner and group take the creators' places
abbrev pub offered : MappingValue → NodeKind → Option (List Ace) → List Ace
offered g kind above = handed_to g kind creator_owner creator_group above

-- the parent offers this, in whatever order of denies and allows
unfoldable pub still_offers : MappingValue → NodeKind → Option (List Ace) → List Ace → Bool
still_offers g kind above offer = same_list (canonical_order (offered g kind above)) (canonical_order offer)

-- the entry with the flag ID
abbrev pub inherited_entry : Ace → Ace
inherited_entry e = record e { flags = record { 0 = bit_or e.flags.0 0x10 } }

-- what was inherited elsewhere stands while the parent offers what was offered there
abbrev pub kept_or_handed : Bool → List Ace → List Ace → List Ace
kept_or_handed true kept handed = map inherited_entry kept
kept_or_handed false kept handed = handed

-- ---- the DACL

-- a node's own entries, and what it inherits unless it is protected, below a parent with this DACL
abbrev pub dacl_under : MappingValue → NodeRow → NodeDacl → Option (List Ace) → Option (List Ace)
dacl_under g row Null above = None
dacl_under g row (Entries protected entries) above = Some (entries ++ (if protected then [] else handed_on g row above))
dacl_under g row (Stored entries inherited offer) above =
    Some (entries ++ kept_or_handed (still_offers g row.kind above offer) inherited (handed_on g row above))

abbrev pub dacl_of_row : MappingValue → NodeRow → Option (List Ace) → Option (List Ace)
dacl_of_row g row above = dacl_under g row row.dacl above
