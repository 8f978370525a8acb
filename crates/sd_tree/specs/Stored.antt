-- How a tree is kept: its nodes in the order of their paths, each with its whole DACL. No public contract says so.
use Rattle.std.specs.Prelude.{◌≡◌, ◌≤◌, if◌then◌else◌, List, ◌++◌, map, All, T, Option, Some, None}
use Rattle.std.specs.FinMap.{is_sorted, from_sorted}
use Rattle.std.specs.declared.cmp.Ordering.{Ordering}
use Rattle.std.specs.declared.cmp.Ordering.TheVariants.{Less}
use Rattle.sd_sid.specs.Mapping.{MappingValue}
use Rattle.sd_path.specs.Names.{Names, names_cmp, is_within}
use Rattle.sd_edit.specs.Plain.{PlainTree, row_at, dacl_at}
use Rattle.sd_edit.specs.Refusals.{dacl_size}
use Rattle.sd_edit.specs.Closed.{IsClosed}
use Rattle.sd_edit.specs.Journal.{replay, root_refusal, IsLawful}
use Rattle.sd_edit.specs.declared.opening.Opening.{Opening}
use Rattle.sd_edit.specs.declared.edit.Edit.{Edit}
use Rattle.sd_tree.specs.declared.journal.Edits.{Edits}
use Rattle.sd_edit.specs.declared.node.NodeRow.{NodeRow}
use Rattle.sd_tree.specs.declared.node.Node.{Node}

abbrev pub path_of_node : Node → Names
path_of_node n = n.path

abbrev pub entry_of : Node → Names × NodeRow
entry_of n = (n.path, n.row)

-- the paths rise
abbrev pub IsInOrder : List Node → Type 0
IsInOrder nodes = T (is_sorted names_cmp (map entry_of nodes))

-- where a path stands to the end of all that stand at or below another
abbrev pub end_cmp : Names → Names → Ordering
end_cmp top path = if is_within top path then Less else names_cmp path top

-- the tree that the nodes are
unfoldable pub tree_of : List Node → PlainTree
tree_of nodes = from_sorted (map entry_of nodes)

-- the node's stored DACL is the tree's, and fits a list
pub record IsWhole (g : MappingValue) (t : PlainTree) (n : Node) : Type 0 where
  pub is : n.whole ≡ dacl_at g t n.path
  pub fits : dacl_size n.whole ≤ 65535

-- the nodes are in order, and each keeps its whole DACL
pub record AreNodes (g : MappingValue) (nodes : List Node) : Type 0 where
  pub order : IsInOrder nodes
  pub whole : All (IsWhole g (tree_of nodes)) nodes

-- a node of a path, with its row and its whole DACL
pub record IsNodeAt (nodes : List Node) (path : Names) (n : Node) : Type 0 where
  pub stands : n.path ≡ path
  pub row : row_at (tree_of nodes) path ≡ Some n.row
  pub whole : (g : MappingValue) → AreNodes g nodes → (n.whole ≡ dacl_at g (tree_of nodes) path)
      × (dacl_size n.whole ≤ 65535)

-- what stands at a path: a node with its row, that keeps its whole DACL; or nothing
abbrev pub IsFound : List Node → Names → Option Node → Type 0
IsFound nodes path None = row_at (tree_of nodes) path ≡ None
IsFound nodes path (Some n) = IsNodeAt nodes path n

-- nodes that an edit may be worked out for
pub record AreStanding (g : MappingValue) (nodes : List Node) : Type 0 where
  pub kept : AreNodes g nodes
  pub closed : IsClosed (tree_of nodes)

-- the edits of a journal, one after the other
abbrev pub edits_in : Edits → List Edit
edits_in e = e.kept ++ e.last.items

-- what a tree keeps: its root was accepted, its journal is lawful, and its nodes are the tree of it
pub record IsStored (opening : Opening) (journal : List Edit) (stored : List Node) : Type 0 where
  pub accepted : root_refusal opening ≡ None
  pub lawful : IsLawful opening journal
  pub tree : tree_of stored ≡ replay opening journal
  pub nodes : AreNodes opening.mapping stored
