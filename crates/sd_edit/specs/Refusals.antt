-- Why an edit is refused: tests in order, of which the first that fits answers.
use Rattle.std.specs.Prelude.{ℕ, Bool, true, false, not, ◌&&◌, nat_lt, nat_le, cond, List, [], ◌∷◌, ◌++◌, length}
use Rattle.std.specs.Prelude.{Option, Some, None, is_some, codes}
use Rattle.std.specs.List.{list_any}
use Rattle.std.specs.Option.{option_or}
use Rattle.std.specs.Ordering.{is_eq}
use Rattle.std.specs.FinMap as map
use Rattle.sd_sid.specs.Mapping.{MappingValue}
use Rattle.sd_acl.specs.Ace.{acl_size_of}
use Rattle.sd_acl.specs.Canonical.{is_inherited, deny_behind_allow}
use Rattle.sd_acl.specs.declared.ace.Ace.{Ace}
use Rattle.sd_path.specs.Names.{Names, names_cmp, up, is_root, is_within, moved_path}
use Rattle.sd_edit.specs.Limits.{LimitsValue}
use Rattle.sd_edit.specs.Plain.{PlainTree, row_at, dacl_at}
use Rattle.sd_edit.specs.Edits.{edited}
use Rattle.sd_edit.specs.declared.node.NodeRow.{NodeRow}
use Rattle.sd_inheritance.specs.declared.kind.NodeKind.{NodeKind}
use Rattle.sd_inheritance.specs.declared.kind.NodeKind.TheVariants.{Container, Object}
use Rattle.sd_edit.specs.declared.node.NodeDacl.{NodeDacl}
use Rattle.sd_edit.specs.declared.node.NodeDacl.TheVariants as own
use Rattle.sd_edit.specs.declared.edit.Edit.{Edit}
use Rattle.sd_edit.specs.declared.edit.Edit.TheVariants.{AddContainer, AddObject, SetOwner, SetGroup, SetDacl, Remove}
use Rattle.sd_edit.specs.declared.edit.Edit.TheVariants.{ProtectKeeping, Move}
use Rattle.sd_edit.specs.declared.refusal.EditRefusal.{EditRefusal}
use Rattle.sd_edit.specs.declared.refusal.EditRefusal.TheVariants.{NoParent, ParentIsObject, Exists, NoNode, NotEmpty}
use Rattle.sd_edit.specs.declared.refusal.EditRefusal.TheVariants.{IsRoot, InheritedEntry, NotCanonical, AclTooLarge}
use Rattle.sd_edit.specs.declared.refusal.EditRefusal.TheVariants.{TooDeep, NodesFull, JournalFull, IntoItself}

-- the refusal of the first test that fits
abbrev pub first_fit : List (Bool × EditRefusal) → Option EditRefusal
first_fit [] = None
first_fit (test ∷ tests) = cond test.0 (Some test.1) (first_fit tests)

-- ---- of a list that is given to a node

abbrev pub own_entries : NodeDacl → List Ace
own_entries own.Null = []
own_entries (own.List protected entries) = entries
own_entries (own.Stored entries inherited offer) = entries

abbrev pub list_tests : NodeDacl → List (Bool × EditRefusal)
list_tests dacl =
    (list_any is_inherited (own_entries dacl), InheritedEntry)
    ∷ (deny_behind_allow (own_entries dacl), NotCanonical)
    ∷ []

-- ---- of the tree before the edit

abbrev pub is_object_kind : NodeKind → Bool
is_object_kind Container = false
is_object_kind Object = true

abbrev pub is_object : Option NodeRow → Bool
is_object None = false
is_object (Some row) = is_object_kind row.kind

-- some other node stands right below the path
abbrev pub has_child : PlainTree → Names → Bool
has_child t path = list_any (λ child. not (is_root child) && is_eq (names_cmp (up child) path)) (map.keys t)

-- a node may come to the path
abbrev pub place_tests : PlainTree → Names → List (Bool × EditRefusal)
place_tests t path =
    (not (is_root path) && not (is_some (row_at t (up path))), NoParent)
    ∷ (not (is_root path) && is_object (row_at t (up path)), ParentIsObject)
    ∷ (is_some (row_at t path), Exists)
    ∷ []

abbrev pub addition_tests : PlainTree → Names → NodeDacl → List (Bool × EditRefusal)
addition_tests t path dacl = place_tests t path ++ list_tests dacl

abbrev pub node_tests : PlainTree → Names → List (Bool × EditRefusal)
node_tests t path = (not (is_some (row_at t path)), NoNode) ∷ []

-- the target first, then the source, and then whether the target stands below the source
abbrev pub move_tests : PlainTree → Names → Names → List (Bool × EditRefusal)
move_tests t source target =
    place_tests t target
    ++ (node_tests t source ++ (is_root source, IsRoot) ∷ (is_within source target, IntoItself) ∷ [])

-- the tests that take no memory
abbrev pub early_tests : PlainTree → Edit → List (Bool × EditRefusal)
early_tests t (AddContainer path owner group dacl) = addition_tests t path dacl
early_tests t (AddObject path owner group dacl) = addition_tests t path dacl
early_tests t (SetOwner path owner) = node_tests t path
early_tests t (SetGroup path group) = node_tests t path
early_tests t (SetDacl path dacl) = node_tests t path ++ list_tests dacl
early_tests t (Remove path) = node_tests t path ++ (has_child t path, NotEmpty) ∷ (is_root path, IsRoot) ∷ []
early_tests t (ProtectKeeping path) = node_tests t path
early_tests t (Move source target) = move_tests t source target

-- ---- of the tree after it, and of the limits

abbrev pub dacl_size : Option (List Ace) → ℕ
dacl_size None = 0
dacl_size (Some entries) = acl_size_of entries

-- some node's DACL takes more than 65,535 bytes ([MS-DTYP] 2.4.5, AclSize)
abbrev pub has_large_dacl : MappingValue → PlainTree → Bool
has_large_dacl g t = list_any (λ path. nat_lt 65535 (dacl_size (dacl_at g t path))) (map.keys t)

-- some node that goes with the source would have a path of more than 64 names
abbrev pub goes_too_deep : Names → Names → Names → Bool
goes_too_deep source target path = is_within source path && nat_lt 64 (length (moved_path source target path))

abbrev pub moves_too_deep : PlainTree → Edit → Bool
moves_too_deep t (AddContainer path owner group dacl) = false
moves_too_deep t (AddObject path owner group dacl) = false
moves_too_deep t (SetOwner path owner) = false
moves_too_deep t (SetGroup path group) = false
moves_too_deep t (SetDacl path dacl) = false
moves_too_deep t (Remove path) = false
moves_too_deep t (ProtectKeeping path) = false
moves_too_deep t (Move source target) = list_any (goes_too_deep source target) (map.keys t)

-- one more node: its path has at most 64 names, and the limits allow it
abbrev pub room_tests : LimitsValue → PlainTree → Edit → List (Bool × EditRefusal)
room_tests limits t (AddContainer path owner group dacl) = (nat_lt 64 (length path), TooDeep)
    ∷ (nat_le limits.nodes (map.len t), NodesFull) ∷ []
room_tests limits t (AddObject path owner group dacl) = (nat_lt 64 (length path), TooDeep)
    ∷ (nat_le limits.nodes (map.len t), NodesFull) ∷ []
room_tests limits t (SetOwner path owner) = []
room_tests limits t (SetGroup path group) = []
room_tests limits t (SetDacl path dacl) = []
room_tests limits t (Remove path) = []
room_tests limits t (ProtectKeeping path) = []
room_tests limits t (Move source target) = (moves_too_deep t (Move source target), TooDeep) ∷ []

-- the tests that may take memory; the last is whether the limits allow one more edit
abbrev pub late_tests : LimitsValue → MappingValue → PlainTree → ℕ → Edit → List (Bool × EditRefusal)
late_tests limits g t count edit =
    (has_large_dacl g (edited g t edit), AclTooLarge)
    ∷ (room_tests limits t edit ++ (nat_le limits.edits count, JournalFull) ∷ [])

abbrev pub early_refusal : PlainTree → Edit → Option EditRefusal
early_refusal t edit = first_fit (early_tests t edit)

abbrev pub late_refusal : LimitsValue → MappingValue → PlainTree → ℕ → Edit → Option EditRefusal
late_refusal limits g t count edit = first_fit (late_tests limits g t count edit)

-- why the edit of this tree is refused, after so many edits, if it is
abbrev pub refusal_in : LimitsValue → MappingValue → PlainTree → ℕ → Edit → Option EditRefusal
refusal_in limits g t count edit = option_or (early_refusal t edit) (late_refusal limits g t count edit)

-- ---- what a caller is told

-- each refusal's number
abbrev pub number_of : EditRefusal → ℕ
number_of NoParent = 1
number_of ParentIsObject = 2
number_of Exists = 3
number_of NoNode = 4
number_of NotEmpty = 5
number_of IsRoot = 6
number_of InheritedEntry = 7
number_of NotCanonical = 8
number_of AclTooLarge = 9
number_of TooDeep = 10
number_of NodesFull = 11
number_of JournalFull = 12
number_of IntoItself = 13

-- each refusal's name
abbrev pub name_of : EditRefusal → List ℕ
name_of NoParent = codes "NoParent"
name_of ParentIsObject = codes "ParentIsObject"
name_of Exists = codes "Exists"
name_of NoNode = codes "NoNode"
name_of NotEmpty = codes "NotEmpty"
name_of IsRoot = codes "IsRoot"
name_of InheritedEntry = codes "InheritedEntry"
name_of NotCanonical = codes "NotCanonical"
name_of AclTooLarge = codes "AclTooLarge"
name_of TooDeep = codes "TooDeep"
name_of NodesFull = codes "NodesFull"
name_of JournalFull = codes "JournalFull"
name_of IntoItself = codes "IntoItself"

-- the refusals that are found without memory: 1 to 8 and 13
abbrev pub is_without_memory : EditRefusal → Bool
is_without_memory NoParent = true
is_without_memory ParentIsObject = true
is_without_memory Exists = true
is_without_memory NoNode = true
is_without_memory NotEmpty = true
is_without_memory IsRoot = true
is_without_memory InheritedEntry = true
is_without_memory NotCanonical = true
is_without_memory AclTooLarge = false
is_without_memory TooDeep = false
is_without_memory NodesFull = false
is_without_memory JournalFull = false
is_without_memory IntoItself = true

abbrev pub is_early : Option EditRefusal → Bool
is_early None = false
is_early (Some refusal) = is_without_memory refusal
