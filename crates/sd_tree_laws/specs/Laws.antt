-- What follows from the rules of the tree, as laws over all trees, edits, tokens and requests.
use Rattle.std.specs.Prelude.{◌≡◌, ◌≢◌, ℕ, Bool, true, false, ◌||◌, List, [], ◌∷◌, ◌++◌, filter, map}
use Rattle.std.specs.Prelude.{Option, Some, None, IsSome}
use Rattle.std.specs.List.{list_any, flat_map}
use Rattle.sd_sid.specs.Mask.{holds}
use Rattle.sd_sid.specs.Mapping.{MappingValue}
use Rattle.sd_sid.specs.Sid.{SidValue}
use Rattle.sd_acl.specs.Ace.{is_inherit_only}
use Rattle.sd_acl.specs.Canonical.{is_inherited, is_explicit, is_canonical, canonical_order}
use Rattle.sd_check.specs.Check.{acl_grants, limits_owner, is_granted}
use Rattle.sd_acl.specs.declared.ace.Ace.{Ace}
use Rattle.sd_acl.specs.declared.ace.AceKind.{AceKind}
use Rattle.sd_check.specs.declared.verdict.Verdict.TheVariants.{Granted}
use Rattle.sd_check.specs.Token.{TokenValue}
use Rattle.sd_path.specs.Names.{Names, up, is_root, is_within, moved_path}
use Rattle.sd_inheritance.specs.Inheritance.{object_inherit, container_inherit, no_propagate, pass_on}
use Rattle.sd_edit.specs.Inheritance.{dacl_of_row, dacl_under, handed_on, inherited_entry, still_offers}
use Rattle.sd_edit.specs.Descriptors.{is_protected}
use Rattle.sd_edit.specs.Closed.{IsClosed}
use Rattle.sd_edit.specs.Plain.{PlainTree, row_at, dacl_at}
use Rattle.sd_edit.specs.Edits.{edited, touches}
use Rattle.sd_edit.specs.Answers.{kind_at, descriptor_at, reply_in, answer}
use Rattle.sd_edit.specs.Journal.{replay, refusal, root_refusal, IsLawful}
use Rattle.sd_edit.specs.Refusals.{own_entries}
use Rattle.sd_edit.specs.declared.node.NodeRow.{NodeRow}
use Rattle.sd_edit.specs.declared.node.NodeDacl.{NodeDacl}
use Rattle.sd_edit.specs.declared.node.NodeDacl.TheVariants.{Null, List as Entries, Stored}
use Rattle.sd_inheritance.specs.declared.kind.NodeKind.{NodeKind}
use Rattle.sd_inheritance.specs.declared.kind.NodeKind.TheVariants.{Object}
use Rattle.sd_edit.specs.declared.opening.Opening.{Opening}
use Rattle.sd_edit.specs.declared.reply.CheckReply.TheVariants.{Verdict}
use Rattle.sd_edit.specs.declared.edit.Edit.{Edit}
use Rattle.sd_edit.specs.declared.edit.Edit.TheVariants.{SetOwner, SetGroup, ProtectKeeping, Move}
use Rattle.sd_edit.specs.declared.refusal.EditRefusal.TheVariants.{JournalFull}

-- ---- from the root down

-- a node's DACL is its own entries and what its parent's DACL passes down; the root's is its own entries alone
abbrev pub DaclIsOfParent : Type 0
DaclIsOfParent =
    (g : MappingValue) (t : PlainTree) (path : Names) (row : NodeRow)
    → row_at t path ≡ Some row → is_root path ≡ false → dacl_at g t path ≡ dacl_of_row g row (dacl_at g t (up path))

abbrev pub RootInheritsNothing : Type 0
RootInheritsNothing =
    (g : MappingValue) (t : PlainTree) (row : NodeRow) → row_at t [] ≡ Some row → dacl_at g t []
    ≡ dacl_of_row g row None

-- after a valid journal the root exists, and the parent of each node exists and is a container
abbrev pub LawfulTreesAreClosed : Type 0
LawfulTreesAreClosed =
    (opening : Opening) (journal : List Edit) → IsLawful opening journal → IsClosed (replay opening journal)

-- ---- a tree and its journals

-- two openings and journals that answer alike, but for the room that the journals have left
pub record AnswerAlike (o : Opening) (journal : List Edit) (o' : Opening) (journal' : List Edit) : Type 0 where
  pub answers : (path : Names) (token : TokenValue) (asked : ℕ)
      → answer o' journal' path token asked ≡ answer o journal path token asked
  pub descriptors : (path : Names)
      → descriptor_at o'.mapping (replay o' journal') path ≡ descriptor_at o.mapping (replay o journal) path
  pub kinds : (path : Names) → kind_at (replay o' journal') path ≡ kind_at (replay o journal) path
  pub refusals : (edit : Edit) → refusal o journal edit ≢ Some JournalFull → refusal o' journal' edit ≢ Some JournalFull
      → refusal o' journal' edit ≡ refusal o journal edit

-- of one mapping, within the same limits, and of journals that make one tree
abbrev pub SameTreeAnswersAlike : Type 0
SameTreeAnswersAlike =
    (o o' : Opening) (journal journal' : List Edit) → o'.mapping ≡ o.mapping → o'.limits ≡ o.limits
    → replay o' journal' ≡ replay o journal → AnswerAlike o journal o' journal'

-- ---- how far an edit reaches

abbrev pub EditStaysBelow : Type 0
EditStaysBelow =
    (g : MappingValue) (t : PlainTree) (edit : Edit) (path : Names)
    → touches edit path ≡ false → descriptor_at g (edited g t edit) path ≡ descriptor_at g t path

-- after a move the nodes at and below the source are at and below the target, each with its kind, owner, group and own
-- list; none is at the source or below it; each other node has the row and the DACL that it had
pub record IsCarried (g : MappingValue) (t : PlainTree) (source target : Names) : Type 0 where
  pub there : (rest : Names) → row_at (edited g t (Move source target)) (target ++ rest) ≡ row_at t (source ++ rest)
  pub gone : (path : Names) → is_within source path ≡ true → row_at (edited g t (Move source target)) path ≡ None
  pub others : (path : Names) → is_within source path ≡ false → is_within target path ≡ false
      → row_at (edited g t (Move source target)) path ≡ row_at t path
  pub lists : (path : Names) → is_within source path ≡ false → is_within target path ≡ false
      → dacl_at g (edited g t (Move source target)) path ≡ dacl_at g t path

abbrev pub MoveCarriesTheSubtree : Type 0
MoveCarriesTheSubtree =
    (opening : Opening) (journal : List Edit) (source target : Names)
    → IsLawful opening journal → refusal opening journal (Move source target) ≡ None
    → IsCarried opening.mapping (replay opening journal) source target

-- a move there and one back, both accepted, leave each node's row and DACL as they were
abbrev pub MoveBackUndoesIt : Type 0
MoveBackUndoesIt =
    (opening : Opening) (journal : List Edit) (source target : Names)
    → IsLawful opening journal → refusal opening journal (Move source target) ≡ None
    → (g : MappingValue) (path : Names)
    → (row_at (edited g (edited g (replay opening journal) (Move source target)) (Move target source)) path
    ≡ row_at (replay opening journal) path)
    × (dacl_at g (edited g (edited g (replay opening journal) (Move source target)) (Move target source)) path
    ≡ dacl_at g (replay opening journal) path)

-- after the move the node has at its new path the DACL that it had, whatever the mapping
abbrev pub KeepsList : PlainTree → Names → Names → Names → Type 0
KeepsList t source target path =
    (g : MappingValue) → dacl_at g (edited g t (Move source target)) (moved_path source target path) ≡ dacl_at g t path

-- after an accepted move each node at or below a moved one that was given such a DACL keeps its DACL
abbrev pub GivenKeepLists : (NodeDacl → Type 0) → Type 0
GivenKeepLists IsGiven =
    (opening : Opening) (journal : List Edit) (source target top path : Names) (row : NodeRow)
    → IsLawful opening journal → refusal opening journal (Move source target) ≡ None
    → row_at (replay opening journal) top ≡ Some row → IsGiven row.dacl
    → is_within source top ≡ true → is_within top path ≡ true → KeepsList (replay opening journal) source target path

abbrev pub ProtectedKeepLists : Type 0
ProtectedKeepLists = GivenKeepLists (λ dacl. is_protected dacl ≡ true)

abbrev pub NullKeepLists : Type 0
NullKeepLists = GivenKeepLists (λ dacl. dacl ≡ Null)

-- after an accepted move each moved node keeps its DACL, where the parent stays
abbrev pub RenamedKeepLists : Type 0
RenamedKeepLists =
    (opening : Opening) (journal : List Edit) (source target path : Names)
    → IsLawful opening journal → refusal opening journal (Move source target) ≡ None
    → up target ≡ up source → is_within source path ≡ true → KeepsList (replay opening journal) source target path

-- another owner or group changes the DACL of its own node alone: where it took a creator's place it isn't inherited
-- further
abbrev pub OwnerChangesOneNode : Type 0
OwnerChangesOneNode =
    (g : MappingValue) (t : PlainTree) (path other : Names) (owner : SidValue)
    → other ≢ path → dacl_at g (edited g t (SetOwner path owner)) other ≡ dacl_at g t other

abbrev pub GroupChangesOneNode : Type 0
GroupChangesOneNode =
    (g : MappingValue) (t : PlainTree) (path other : Names) (group : SidValue)
    → other ≢ path → dacl_at g (edited g t (SetGroup path group)) other ≡ dacl_at g t other

-- nor does it change one to protect a node whose DACL is null
abbrev pub KeepingANullChangesNone : Type 0
KeepingANullChangesNone =
    (g : MappingValue) (t : PlainTree) (path other : Names)
    → dacl_at g t path ≡ None → other ≢ path → dacl_at g (edited g t (ProtectKeeping path)) other ≡ dacl_at g t other

-- two trees with the same nodes at and below a protected one have the same DACLs there
abbrev pub ProtectedStandsAlone : Type 0
ProtectedStandsAlone =
    (g : MappingValue) (t u : PlainTree) (top path : Names) (row : NodeRow)
    → row_at t top ≡ Some row → is_protected row.dacl ≡ true
    → ((q : Names) → is_within top q ≡ true → row_at t q ≡ row_at u q)
    → is_within top path ≡ true → dacl_at g t path ≡ dacl_at g u path

-- ---- how far an entry reaches

abbrev pub UnmarkedEntryStays : Type 0
UnmarkedEntryStays =
    (g : MappingValue) (kind : NodeKind) (owner group : SidValue) (e : Ace)
    → object_inherit e ≡ false → container_inherit e ≡ false → pass_on g kind owner group e ≡ []

-- what a child has of an entry with NP hands nothing on to a child of the child's own
abbrev pub NoPropagateGoesOneLevel : Type 0
NoPropagateGoesOneLevel =
    (g : MappingValue) (kind next_kind : NodeKind) (owner group next_owner next_group : SidValue) (e : Ace)
    → no_propagate e ≡ true → flat_map (pass_on g next_kind next_owner next_group) (pass_on g kind owner group e) ≡ []

-- the entry has a flag that speaks of children: OI, CI, NP or IO
abbrev pub speaks_of_children : Ace → Bool
speaks_of_children e = object_inherit e || (container_inherit e || (no_propagate e || is_inherit_only e))

abbrev pub NothingWaitsInAnObject : Type 0
NothingWaitsInAnObject =
    (g : MappingValue) (row : NodeRow) (above : Option (List Ace))
    → row.kind ≡ Object → list_any speaks_of_children (handed_on g row above) ≡ false

-- ---- the flag ID marks what is inherited

abbrev pub InheritedHasId : Type 0
InheritedHasId =
    (g : MappingValue) (row : NodeRow) (above : Option (List Ace)) → list_any is_explicit (handed_on g row above)
    ≡ false

-- after a valid journal no node's own entries have it
abbrev pub OwnHasNoId : Type 0
OwnHasNoId =
    (opening : Opening) (journal : List Edit) (path : Names) (row : NodeRow)
    → root_refusal opening ≡ None → IsLawful opening journal
    → row_at (replay opening journal) path ≡ Some row → list_any is_inherited (own_entries row.dacl) ≡ false

-- what a node's DACL has without it is what the node has of its own
abbrev pub WithoutIdIsOwn : Type 0
WithoutIdIsOwn =
    (opening : Opening) (journal : List Edit) (path : Names) (row : NodeRow) (entries : List Ace)
    → root_refusal opening ≡ None → IsLawful opening journal
    → row_at (replay opening journal) path ≡ Some row
    → dacl_at opening.mapping (replay opening journal) path ≡ Some entries
    → filter is_explicit entries ≡ own_entries row.dacl

-- ---- a node that was stored with what it had inherited elsewhere

-- while its parent offers what was offered there, it has these entries, each with ID
abbrev pub StoredKeeps : Type 0
StoredKeeps =
    (g : MappingValue) (row : NodeRow) (own inherited offer : List Ace) (above : Option (List Ace))
    → still_offers g row.kind above offer ≡ true
    → dacl_under g row (Stored own inherited offer) above ≡ Some (own ++ map inherited_entry inherited)

-- otherwise it has what it would have if it hadn't been stored
abbrev pub StoredInherits : Type 0
StoredInherits =
    (g : MappingValue) (row : NodeRow) (own inherited offer : List Ace) (above : Option (List Ace))
    → still_offers g row.kind above offer ≡ false
    → dacl_under g row (Stored own inherited offer) above ≡ dacl_under g row (Entries false own) above

-- ---- the order of entries

abbrev pub EveryListIsCanonical : Type 0
EveryListIsCanonical =
    (opening : Opening) (journal : List Edit) (path : Names) (entries : List Ace)
    → root_refusal opening ≡ None → IsLawful opening journal
    → dacl_at opening.mapping (replay opening journal) path ≡ Some entries → is_canonical entries ≡ true

-- what allows in canonical order allows in the list's own, whoever the entries apply to
abbrev pub OrderGrantsNothing : Type 0
OrderGrantsNothing =
    (g : MappingValue) (who : AceKind → SidValue → Bool) (es : List Ace) (b : ℕ)
    → acl_grants g who (Some (canonical_order es)) b ≡ true → acl_grants g who (Some es) b ≡ true

abbrev pub OrderKeepsOwnersLimit : Type 0
OrderKeepsOwnersLimit = (es : List Ace) → limits_owner (Some (canonical_order es)) ≡ limits_owner (Some es)

-- whether the bit is granted at the node: by its DACL, or without an entry
abbrev pub granted_by_row : MappingValue → Option (List Ace) → TokenValue → ℕ → Option NodeRow → Bool
granted_by_row g dacl token b None = false
granted_by_row g dacl token b (Some row) = is_granted (Some row.owner) dacl g token b

abbrev pub is_granted_at : MappingValue → PlainTree → Names → TokenValue → ℕ → Bool
is_granted_at g t path token b = granted_by_row g (dacl_at g t path) token b (row_at t path)

-- what is granted after a node was protected was granted before, at the node and at each other
abbrev pub KeepingLetsNobodyIn : Type 0
KeepingLetsNobodyIn =
    (g : MappingValue) (t : PlainTree) (protected path : Names) (token : TokenValue) (b : ℕ)
    → is_granted_at g (edited g t (ProtectKeeping protected)) path token b ≡ true
    → is_granted_at g t path token b ≡ true

-- a request without MAXIMUM_ALLOWED, place 25, that a check grants after a node was protected, it granted before
abbrev pub KeepingGrantsNoNewRequest : Type 0
KeepingGrantsNoNewRequest =
    (g : MappingValue) (t : PlainTree) (protected path : Names) (token : TokenValue) (asked m : ℕ)
    → holds asked 25 ≡ false
    → reply_in g (edited g t (ProtectKeeping protected)) path token asked ≡ Verdict (Granted m)
    → reply_in g t path token asked ≡ Verdict (Granted m)

-- ---- ProtectKeeping of a node, and then its move

-- the journal with these two edits
abbrev pub protected_then_moved : List Edit → Names → Names → List Edit
protected_then_moved journal source target = journal ++ ProtectKeeping source ∷ Move source target ∷ []

-- the move changes no DACL: each node has at its new path the one that it had before the move
abbrev pub ProtectingFirstKeepsLists : Type 0
ProtectingFirstKeepsLists =
    (opening : Opening) (journal : List Edit) (source target path : Names)
    → IsLawful opening (protected_then_moved journal source target) → IsSome (row_at (replay opening journal) path)
    → (g : MappingValue)
    → dacl_at g (replay opening (protected_then_moved journal source target)) (moved_path source target path)
    ≡ dacl_at g (replay opening (journal ++ ProtectKeeping source ∷ [])) path

-- what is granted after a node was protected and moved, at a node's new path, was granted at its path before both edits
abbrev pub ProtectingFirstLetsNobodyIn : Type 0
ProtectingFirstLetsNobodyIn =
    (opening : Opening) (journal : List Edit) (source target path : Names) (token : TokenValue) (b : ℕ)
    → IsLawful opening (protected_then_moved journal source target) → IsSome (row_at (replay opening journal) path)
    → is_granted_at opening.mapping (replay opening (protected_then_moved journal source target))
    (moved_path source target path) token b ≡ true
    → is_granted_at opening.mapping (replay opening journal) path token b ≡ true

-- a request without MAXIMUM_ALLOWED, place 25, that is granted after a node was protected and moved, at a node's new
-- path, was granted at its path before both edits
abbrev pub ProtectingFirstGrantsNoNewRequest : Type 0
ProtectingFirstGrantsNoNewRequest =
    (opening : Opening) (journal : List Edit) (source target path : Names) (token : TokenValue) (asked m : ℕ)
    → IsLawful opening (protected_then_moved journal source target) → IsSome (row_at (replay opening journal) path)
    → holds asked 25 ≡ false
    → answer opening (protected_then_moved journal source target) (moved_path source target path) token asked
    ≡ Verdict (Granted m)
    → answer opening journal path token asked ≡ Verdict (Granted m)
