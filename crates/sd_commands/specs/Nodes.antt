-- TREE: the nodes of a tree of object types as an argument, `LEVEL:GUID` with commas between, as a list of them has
-- them ([MS-DTYP] 2.5.3.2, ObjectTypeList).
use Rattle.std.specs.Prelude.{◌≡◌, ℕ, ◌+◌, ◌-◌, ◌==◌, List, [], ◌∷◌, ◌++◌, length, Option, Some, None, Result, Ok, Err}
use Rattle.std.specs.Prelude.{if◌then◌else◌, codes}
use Rattle.std.specs.Char.{is_ascii_digit}
use Rattle.std.specs.Fmt.{decimal}
use Rattle.std.specs.List.{after_first, before_first}
use Rattle.sd_types.specs.Tree.{chains_in, chains_of, kind_name, kind_number, tree_fault}
use Rattle.sd_types.specs.declared.tree.TreeFault.{TreeFault}
use Rattle.sd_types.specs.declared.tree.TreeFaultKind.TheVariants.{NoClass}
use Rattle.sd_types.specs.declared.tree.TypeNode.{TypeNode}
use Rattle.sd_whole.specs.declared.types.Guid.{Guid}
use Rattle.sd_whole_parse.specs.Guid.{guid_in}
use Rattle.sd_commands.specs.Mapping.{between_commas}
use Rattle.sd_commands.specs.declared.nodes.NodesError.{NodesError}
use Rattle.sd_commands.specs.declared.nodes.NodesError.TheVariants as errors
use Rattle.sd_commands.specs.declared.nodes.NodesFault.{NodesFault}
use Rattle.sd_commands.specs.declared.nodes.NodesFault.TheVariants.{NoGuid, NoLevel, NoTree}
use Rattle.sd_commands.specs.declared.nodes.NodesAsked.{NodesAsked}

-- ---- a node

-- what is before the first colon of a node's text, or all of it, and what is after it
abbrev pub level_text : List ℕ → List ℕ
level_text text = before_first (λ b. b == 58) text

abbrev pub type_text : List ℕ → List ℕ
type_text text = after_first (λ b. b == 58) text

-- a level in one decimal digit
abbrev pub level_in : List ℕ → Option ℕ
level_in [] = None
level_in (digit ∷ []) = if is_ascii_digit digit then Some (digit - 48) else None
level_in (digit ∷ other ∷ text) = None

-- after these nodes one with this level and this type, or which of both it lacks
abbrev pub with_node : List TypeNode → Option ℕ → Option Guid → Result (List TypeNode) NodesFault
with_node before None type = Err (NoLevel (length before))
with_node before (Some level) None = Err (NoGuid (length before))
with_node before (Some level) (Some guid) = Ok (before ++ record { level = level; guid = guid } ∷ [])

-- after these nodes the one that the text is
abbrev pub one_more : List TypeNode → List ℕ → Result (List TypeNode) NodesFault
one_more before text = with_node before (level_in (level_text text)) (guid_in (type_text text))

-- ---- all of them

-- after these nodes those that the texts are, or why the first that is none isn't one
abbrev pub nodes_after : List TypeNode → List (List ℕ) → Result (List TypeNode) NodesFault
nodes_after before [] = Ok before
nodes_after before (text ∷ texts) =
    elim (one_more before text) [
      | Ok nodes ↦ nodes_after nodes texts
      | Err fault ↦ Err fault
    ]

-- the nodes of the texts that commas part; an empty text has none
abbrev pub nodes_in : List ℕ → Result (List TypeNode) NodesFault
nodes_in [] = Ok []
nodes_in (c ∷ text) = nodes_after [] (between_commas (c ∷ text))

-- these nodes, unless they are no tree
abbrev pub if_tree : List TypeNode → Option TreeFault → Result (List TypeNode) NodesFault
if_tree nodes None = Ok nodes
if_tree nodes (Some fault) = Err (NoTree fault)

-- the nodes of the tree that the text is, or the first fault of it: first of a node's text, then of the tree
abbrev pub tree_in : List ℕ → Result (List TypeNode) NodesFault
tree_in text =
    elim (nodes_in text) [
      | Ok nodes ↦ if_tree nodes (tree_fault nodes)
      | Err fault ↦ Err fault
    ]

-- ---- a fault

-- the numbers after those of trees
abbrev pub nodes_number : NodesFault → ℕ
nodes_number (NoTree fault) = kind_number fault.kind
nodes_number (NoLevel place) = 6
nodes_number (NoGuid place) = 7

abbrev pub nodes_name : NodesFault → List ℕ
nodes_name (NoTree fault) = kind_name fault.kind
nodes_name (NoLevel place) = codes "NoLevel"
nodes_name (NoGuid place) = codes "NoGuid"

-- which node it is, from 1
abbrev pub node_place : ℕ → List ℕ
node_place place = codes " (node " ++ decimal (place + 1) ++ codes ")"

-- a tree without a class has no node
abbrev pub tree_place : TreeFault → List ℕ
tree_place fault = elim fault.kind [
  | NoClass ↦ []
  | kind ↦ node_place fault.place
]

abbrev pub nodes_place : NodesFault → List ℕ
nodes_place (NoTree fault) = tree_place fault
nodes_place (NoLevel place) = node_place place
nodes_place (NoGuid place) = node_place place

-- by number and name, and which node
abbrev pub told_nodes : NodesFault → List ℕ
told_nodes fault = decimal (nodes_number fault) ++ codes " " ++ nodes_name fault ++ nodes_place fault

-- ---- what the code returns

-- what a function returns is what is found, unless memory runs out
abbrev pub Finds : {X : Type 0} → (X → List TypeNode → Type 0) → Result X NodesError → Result (List TypeNode) NodesFault
    → Type 0
Finds Has (Ok x) found = elim found [
  | Ok nodes ↦ Has x nodes
  | Err fault ↦ ⊥
]
Finds Has (Err (errors.Fault fault)) found = found ≡ Err fault
Finds Has (Err errors.Memory) found = Unit {0}

-- the nodes, and their tree
abbrev pub HasNodes : NodesAsked → List TypeNode → Type 0
HasNodes asked nodes = (asked.nodes.items ≡ nodes) × (chains_in asked.tree ≡ chains_of nodes)
