-- What the entries of a DACL say of one right, node by node of a tree of object types, as they are gone through in
-- order ([MS-DTYP] 2.5.3.2, ObjectTypeList): what an entry says of a node is handed down to all below it, and up.
use Rattle.std.specs.Prelude.{◌≡◌, ℕ, ◌+◌, Bool, true, false, not, ◌&&◌, ◌||◌, ◌==◌, List, [], ◌∷◌, length}
use Rattle.std.specs.Prelude.{Option, Some, None, Result, Ok, Err, if◌then◌else◌}
use Rattle.std.specs.List.{filter, filter_map, last_or, list_all, list_any}
use Rattle.std.specs.Option.{option_map_or}
use Rattle.sd_acl.specs.declared.ace.Ace.{Ace}
use Rattle.sd_acl.specs.declared.ace.AceKind.{AceKind}
use Rattle.sd_acl.specs.declared.ace.AceKind.TheVariants.{Allow, Deny}
use Rattle.sd_check.specs.Check.{decides}
use Rattle.sd_sid.specs.Mapping.{MappingValue}
use Rattle.sd_sid.specs.Sid.{SidValue}
use Rattle.sd_specialize.specs.Context.{ContextValue}
use Rattle.sd_specialize.specs.Entry.{allows_type, entry_for}
use Rattle.sd_specialize.specs.Laws.{asking}
use Rattle.sd_specialize.specs.declared.fault.RefusedKind.{RefusedKind}
use Rattle.sd_whole.specs.declared.ace.TypedAce.{TypedAce}
use Rattle.sd_whole.specs.declared.ace.WholeAce.{WholeAce}
use Rattle.sd_whole.specs.declared.ace.WholeAce.TheVariants.{Plain, Typed, Opaque}
use Rattle.sd_whole.specs.declared.kind.WholeKind.{WholeKind}
use Rattle.sd_whole.specs.declared.kind.WholeKind.TheVariants.{ObjectAllow, ObjectDeny, CallbackObjectAllow}
use Rattle.sd_whole.specs.declared.kind.WholeKind.TheVariants.{CallbackObjectDeny}
use Rattle.sd_whole.specs.declared.types.Guid.{Guid}
use Rattle.sd_types.specs.Tree.{Chain, IsNode, is_below, is_under, same_guid}

-- an entry that speaks of the right: what it decides, and of which type, or of the whole object
pub record Saying : Type 0 where
  pub kind : AceKind
  pub type : Option Guid

-- ---- by the chain: the first entry that is for it decides

abbrev pub first_for : Chain → List Saying → Option AceKind
first_for n [] = None
first_for n (e ∷ es) = if allows_type n e.type then Some e.kind else first_for n es

abbrev pub allows : Option AceKind → Bool
allows (Some Allow) = true
allows _ = false

abbrev pub denies : Option AceKind → Bool
denies (Some Deny) = true
denies _ = false

-- ---- by propagation

-- at which nodes the right is granted so far, and at which it is denied
pub record Told : Type 0 where
  pub granted : Chain → Bool
  pub denied : Chain → Bool

abbrev pub nothing_told : Told
nothing_told = record { granted = λ n. false; denied = λ n. false }

-- the node is the entry's: it has its type; one of the whole object is the class's
abbrev pub is_at : Option Guid → Chain → Bool
is_at None n = length n == 1
is_at (Some type) n = option_map_or (λ own. same_guid own type) (last_or None n) false

-- it is the entry's node, or below it
abbrev pub is_reached : List Chain → Option Guid → Chain → Bool
is_reached tree type n = list_any (λ m. is_at type m && is_under m n) tree

-- it is above the entry's node
abbrev pub is_above : List Chain → Option Guid → Chain → Bool
is_above tree type n = list_any (λ m. is_at type m && is_below n m) tree

abbrev pub children : List Chain → Chain → List Chain
children tree n = filter (λ k. is_under n k && length k == length n + 1) tree

-- an allow grants to its node and to all below it, where the right isn't denied; a node above has what all its
-- children have
pub record Allows (tree : List Chain) (type : Option Guid) (old new : Told) : Type 0 where
  pub down : (n : Chain) → IsNode tree n → is_reached tree type n ≡ true
      → new.granted n ≡ (old.granted n || not (old.denied n))
  pub up : (n : Chain) → IsNode tree n → is_reached tree type n ≡ false → is_above tree type n ≡ true
      → new.granted n ≡ list_all new.granted (children tree n)
  pub other : (n : Chain) → IsNode tree n → is_reached tree type n ≡ false → is_above tree type n ≡ false
      → new.granted n ≡ old.granted n
  pub denied : (n : Chain) → IsNode tree n → new.denied n ≡ old.denied n

-- a deny denies to its node and to all below it, where the right isn't granted; a node above is denied what one of its
-- children is
pub record Denies (tree : List Chain) (type : Option Guid) (old new : Told) : Type 0 where
  pub down : (n : Chain) → IsNode tree n → is_reached tree type n ≡ true
      → new.denied n ≡ (old.denied n || not (old.granted n))
  pub up : (n : Chain) → IsNode tree n → is_reached tree type n ≡ false → is_above tree type n ≡ true
      → new.denied n ≡ list_any new.denied (children tree n)
  pub other : (n : Chain) → IsNode tree n → is_reached tree type n ≡ false → is_above tree type n ≡ false
      → new.denied n ≡ old.denied n
  pub granted : (n : Chain) → IsNode tree n → new.granted n ≡ old.granted n

abbrev pub Says : List Chain → AceKind → Option Guid → Told → Told → Type 0
Says tree Allow = Allows tree
Says tree Deny = Denies tree

-- the entries, from what was told before them, tell this
abbrev pub Tells : List Chain → List Saying → Told → Told → Type 0
Tells tree [] old new = (n : Chain) → IsNode tree n → (new.granted n ≡ old.granted n) × (new.denied n ≡ old.denied n)
Tells tree (e ∷ es) old new = (next : Told) × Says tree e.kind e.type old next × Tells tree es next new

-- ---- what the entries of a DACL say

-- the type that an entry is for, if it is for one
abbrev pub type_as : WholeKind → TypedAce → Option Guid
type_as ObjectAllow e = e.types.object
type_as ObjectDeny e = e.types.object
type_as CallbackObjectAllow e = e.types.object
type_as CallbackObjectDeny e = e.types.object
type_as _ e = None

abbrev pub type_of : WholeAce → Option Guid
type_of (Plain e) = None
type_of (Typed e) = type_as e.kind e
type_of (Opaque e) = None

abbrev pub own_chain : Option Guid → Chain
own_chain None = []
own_chain (Some type) = type ∷ []

abbrev pub said_by : MappingValue → (AceKind → SidValue → Bool) → ℕ → Option Guid → Result Ace RefusedKind
    → Option Saying
said_by g who b type (Ok e) = if decides g who b e then Some (record { kind = e.kind; type = type }) else None
said_by g who b type (Err kind) = None

-- what an entry says of a right: asked about its own type, it is a plain allow or deny that decides it
abbrev pub said : ContextValue → MappingValue → (AceKind → SidValue → Bool) → ℕ → WholeAce → Option Saying
said c g who b e = said_by g who b (type_of e) (entry_for (asking c (own_chain (type_of e))) e)

abbrev pub sayings : ContextValue → MappingValue → (AceKind → SidValue → Bool) → ℕ → List WholeAce → List Saying
sayings c g who b es = filter_map (said c g who b) es
