-- The nodes of a tree, as an edit is judged and planned by them. No public contract says so.
use Rattle.sd_edit.specs.Plain.{PlainTree}
use Rattle.sd_tree.specs.Stored.{AreStanding, tree_of}
use Rattle.sd_tree.specs.declared.tree_view.TreeView.{TreeView}

-- each node keeps its whole DACL, and the tree has no gaps
abbrev pub IsView : TreeView → Type 0
IsView v = AreStanding v.mapping.now v.nodes.now

-- the tree that the nodes are
abbrev pub tree_in : TreeView → PlainTree
tree_in v = tree_of v.nodes.now
