-- Which nodes inherit the same. No public contract says so.
use Rattle.std.specs.Prelude.{◌≡◌, ℕ, ◌-◌, ◌<◌, Bool, ◌||◌, true, false, List, length, slice_index_or, Option, Some}
use Rattle.std.specs.Prelude.{None}
use Rattle.std.specs.List.{list_any}
use Rattle.sd_sid.specs.Mapping.{MappingValue}
use Rattle.sd_sid.specs.Sid.{same_sid}
use Rattle.sd_acl.specs.declared.ace.Ace.{Ace}
use Rattle.sd_path.specs.Names.{Names, up, is_root}
use Rattle.sd_inheritance.specs.Inheritance.{creator_owner, creator_group}
use Rattle.sd_edit.specs.Inheritance.{handed_on}
use Rattle.sd_tree.specs.Stored.{path_of_node}
use Rattle.sd_tree.specs.Node.{behind_own, inherits}
use Rattle.sd_edit.specs.declared.node.NodeRow.{NodeRow}
use Rattle.sd_tree.specs.declared.node.Node.{Node}

-- the entry is for CREATOR OWNER or CREATOR GROUP
abbrev pub names_creator : Ace → Bool
names_creator e = same_sid e.sid creator_owner || same_sid e.sid creator_group

-- whether a child's owner and group tell in what it inherits of a DACL
abbrev pub trustees_matter : Option (List Ace) → Bool
trustees_matter None = false
trustees_matter (Some entries) = list_any names_creator entries

-- nothing tells two rows apart in what their nodes inherit, but owner and group where these aren't compared
pub record AreAlike (one other : NodeRow) (by_trustees : Bool) : Type 0 where
  pub kind : one.kind ≡ other.kind
  pub one_inherits : inherits one.dacl ≡ true
  pub other_inherits : inherits other.dacl ≡ true
  pub trustees : by_trustees ≡ true → (one.owner ≡ other.owner) × (one.group ≡ other.group)

-- below a parent with this DACL nodes with the two rows inherit the same
pub record InheritOne (one other : NodeRow) (above : Option (List Ace)) : Type 0 where
  pub one_inherits : inherits one.dacl ≡ true
  pub other_inherits : inherits other.dacl ≡ true
  pub same : (g : MappingValue) → handed_on g one above ≡ handed_on g other above

-- the node at the place stands where the path does, below a parent with this DACL, and inherits what the row would
pub record IsSibling (boxes : List Node) (path : Names) (row : NodeRow) (above : Option (List Ace))
    (k : ℕ) : Type 0 where
  pub place : k < length boxes
  pub below_root : (b : Node) → is_root (path_of_node (slice_index_or boxes k b)) ≡ false
  pub parent : (b : Node) → up (path_of_node (slice_index_or boxes k b)) ≡ up path
  pub alike : (b : Node) → InheritOne (slice_index_or boxes k b).row row above

-- of the nodes that are made already, for those from a place on, each sibling has behind its own entries what the row
-- inherits
abbrev pub AreMadeFor : MappingValue → List Node → Names → NodeRow → Option (List Ace) → ℕ → List Node → Type 0
AreMadeFor g boxes path row above at made =
    (k : ℕ) (b c : Node) → IsSibling boxes path row above k → at < k → k - at < length made
    → (slice_index_or made (k - at) c).whole
    ≡ Some (behind_own (slice_index_or made (k - at) c).row (handed_on g row above))
