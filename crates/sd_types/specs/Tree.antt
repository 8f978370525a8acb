-- A tree of object types, as a list of them has it ([MS-DTYP] 2.5.3.2, ObjectTypeList): each node with its level,
-- behind the one above it.
use Rattle.std.specs.Prelude.{◌≡◌, ◌⊎◌, ℕ, ◌+◌, ◌-◌, Bool, not, ◌&&◌, ◌==◌, nat_lt}
use Rattle.std.specs.Prelude.{List, [], ◌∷◌, ◌++◌, length, take, map}
use Rattle.std.specs.Prelude.{Option, Some, None, Result, Ok, Err, slice_get, if◌then◌else◌, codes}
use Rattle.std.specs.List.{filter, list_any, starts_with}
use Rattle.std.specs.Option.{option_map_or}
use Rattle.std.specs.Str.{bytes_eq}
use Rattle.sd_whole.specs.declared.types.Guid.{Guid}
use Rattle.sd_types.specs.declared.tree.TreeError.{TreeError}
use Rattle.sd_types.specs.declared.tree.TreeError.TheVariants as errors
use Rattle.sd_types.specs.declared.tree.TreeFault.{TreeFault}
use Rattle.sd_types.specs.declared.tree.TreeFaultKind.{TreeFaultKind}
use Rattle.sd_types.specs.declared.tree.TreeFaultKind.TheVariants.{NoClass, LevelLeftOut, SecondClass, TooDeep}
use Rattle.sd_types.specs.declared.tree.TreeFaultKind.TheVariants.{Repeated}
use Rattle.sd_types.specs.declared.tree.TypeNode.{TypeNode}
use Rattle.sd_types.specs.declared.tree.TypeTree.{TypeTree}

-- ---- nodes by their chains

-- a node is known by its chain: the types from the class to its own
abbrev pub Chain : Type 0
Chain = List Guid

-- the chain of each node is that of the node before it, as far as its level, and its own type
abbrev pub chains_after : Chain → List TypeNode → List Chain
chains_after before [] = []
chains_after before (node ∷ nodes) =
    let chain = take node.level before ++ node.guid ∷ [] in chain ∷ chains_after chain nodes

abbrev pub chains_of : List TypeNode → List Chain
chains_of nodes = chains_after [] nodes

abbrev pub IsNode : List Chain → Chain → Type 0
IsNode [] n = ⊥
IsNode (m ∷ tree) n = (m ≡ n) ⊎ IsNode tree n

-- ---- what is below what

abbrev pub same_guid : Guid → Guid → Bool
same_guid a b = bytes_eq a.bytes b.bytes

-- the node n is m or below it
abbrev pub is_under : Chain → Chain → Bool
is_under m n = starts_with same_guid n m

abbrev pub is_below : Chain → Chain → Bool
is_below m n = nat_lt (length m) (length n) && is_under m n

-- nothing is below a leaf
abbrev pub is_leaf : List Chain → Chain → Bool
is_leaf tree n = not (list_any (is_below n) tree)

-- the leaves of a node: those at it or below it
abbrev pub leaves_under : List Chain → Chain → List Chain
leaves_under tree m = filter (λ n. is_under m n && is_leaf tree n) tree

-- ---- which lists are trees

-- how deep a node may stand behind these: one level below the last
abbrev pub deepest_after : List TypeNode → ℕ
deepest_after before =
    option_map_or (λ (last : TypeNode). last.level + 1) (slice_get before (length before - 1)) 0

-- why a node can't stand behind these. There is one node of level 0, the class; levels are 0 to 4; and a type stands
-- once, so that an entry for it has one node
abbrev pub node_fault : List TypeNode → TypeNode → Option TreeFaultKind
node_fault before node =
    if nat_lt (deepest_after before) node.level then Some LevelLeftOut
    else if node.level == 0 && nat_lt 0 (length before) then Some SecondClass
    else if nat_lt 4 node.level then Some TooDeep
    else if list_any (λ (other : TypeNode). same_guid other.guid node.guid) before then Some Repeated
    else None

abbrev pub placed_or : ℕ → Option TreeFaultKind → Option TreeFault → Option TreeFault
placed_or place (Some kind) later = Some (record { place = place; kind = kind })
placed_or place None later = later

-- the first node that can't stand behind those before it
abbrev pub fault_after : List TypeNode → List TypeNode → Option TreeFault
fault_after before [] = None
fault_after before (node ∷ nodes) =
    placed_or (length before) (node_fault before node) (fault_after (before ++ node ∷ []) nodes)

-- why the list is no tree; one without a node has no class
abbrev pub tree_fault : List TypeNode → Option TreeFault
tree_fault [] = Some (record { place = 0; kind = NoClass })
tree_fault (node ∷ nodes) = fault_after [] (node ∷ nodes)

abbrev pub kind_number : TreeFaultKind → ℕ
kind_number NoClass = 1
kind_number LevelLeftOut = 2
kind_number SecondClass = 3
kind_number TooDeep = 4
kind_number Repeated = 5

abbrev pub kind_name : TreeFaultKind → List ℕ
kind_name NoClass = codes "NoClass"
kind_name LevelLeftOut = codes "LevelLeftOut"
kind_name SecondClass = codes "SecondClass"
kind_name TooDeep = codes "TooDeep"
kind_name Repeated = codes "Repeated"

-- ---- what the code returns

abbrev pub chains_in : TypeTree → List Chain
chains_in tree = map (λ chain. chain.items) tree.chains.items

-- the nodes' tree, or why they are none, unless memory runs out
abbrev pub GivesTree : Result TypeTree TreeError → List TypeNode → Type 0
GivesTree (Ok tree) nodes = (tree_fault nodes ≡ None) × (chains_in tree ≡ chains_of nodes)
GivesTree (Err (errors.Fault fault)) nodes = tree_fault nodes ≡ Some fault
GivesTree (Err errors.Memory) nodes = Unit {0}
