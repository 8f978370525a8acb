-- Why few lists and few names are enough: what is below new containers is as what is in the container, one name stands
-- for each owner of a child, and one user for all whom neither descriptor names.
use Rattle.std.specs.Prelude.{◌≡◌, ℕ, true, false, List, [], ◌∷◌, ◌++◌, if◌then◌else◌, Some}
use Rattle.std.specs.List.{flat_map}
use Rattle.sd_sid.specs.Mapping.{MappingValue}
use Rattle.sd_sid.specs.Sid.{SidValue, owner_rights, same_sid}
use Rattle.sd_acl.specs.declared.ace.Ace.{Ace}
use Rattle.sd_acl.specs.declared.ace.AceKind.{AceKind}
use Rattle.sd_acl.specs.declared.ace.AceKind.TheVariants.{Allow, Deny}
use Rattle.sd_check.specs.Check.{is_granted}
use Rattle.sd_check.specs.Token.{TokenValue, is_restricted, is_restricting, stands_for}
use Rattle.sd_check.specs.declared.token.GroupState.{GroupState}
use Rattle.sd_check.specs.declared.token.GroupState.TheVariants.{Enabled, DenyOnly}
use Rattle.sd_inheritance.specs.Inheritance.{creator_group, creator_owner, pass_on}
use Rattle.sd_inheritance.specs.declared.kind.NodeKind.{NodeKind}
use Rattle.sd_analysis.specs.Descendants.{inherited_entries, list_of, stops_somewhere}
use Rattle.sd_analysis.specs.declared.descendants.Descendant.TheVariants.{Object, Container}
use Rattle.sd_analysis.specs.declared.descendants.Descendant.TheVariants.{ObjectBelow, ContainerBelow}
use Rattle.sd_analysis.specs.Sufficient.{Parts, gains, is_named}

-- ---- below new containers

-- where each entry is handed on to any depth, the lists of what is made below a new container are those of what is made
-- in the container itself
abbrev pub BelowIsAsInIt : Type 0
BelowIsAsInIt =
    (g : MappingValue) (es : List Ace) → stops_somewhere es ≡ false
    → (list_of g ObjectBelow es ≡ list_of g Object es) × (list_of g ContainerBelow es ≡ list_of g Container es)

-- ---- a child's owner and group

-- what the entries hand on to a child of the kind with this owner and group
abbrev pub handed_to : MappingValue → NodeKind → SidValue → SidValue → List Ace → List Ace
handed_to g kind owner group es = flat_map (pass_on g kind owner group) es

-- one token is to CREATOR OWNER and CREATOR GROUP what the other is to the owner and the group, and to every other SID
-- what the other is
pub record StandsIn (owner group : SidValue) (t other : TokenValue) : Type 0 where
  pub owned : (kind : AceKind) → stands_for other kind creator_owner ≡ stands_for t kind owner
  pub grouped : (kind : AceKind) → stands_for other kind creator_group ≡ stands_for t kind group
  pub named : (kind : AceKind) (s : SidValue) → same_sid s creator_owner ≡ false → same_sid s creator_group ≡ false
      → stands_for other kind s ≡ stands_for t kind s
  pub owned_again : is_restricting other creator_owner ≡ is_restricting t owner
  pub grouped_again : is_restricting other creator_group ≡ is_restricting t group
  pub named_again : (s : SidValue) → same_sid s creator_owner ≡ false → same_sid s creator_group ≡ false
      → is_restricting other s ≡ is_restricting t s
  pub restricted : is_restricted other ≡ is_restricted t
  pub privileges : other.privileges ≡ t.privileges

-- so it is granted by the list that a child inherits, with CREATOR OWNER as its owner, what the other one is granted
-- with the child's own owner and group. OWNER RIGHTS owns nothing
abbrev pub CreatorsStandForAll : Type 0
CreatorsStandForAll =
    (g : MappingValue) (kind : NodeKind) (es : List Ace) (owner group : SidValue) (t other : TokenValue) (b : ℕ)
    → same_sid owner owner_rights ≡ false → same_sid group owner_rights ≡ false
    → StandsIn owner group t other
    → is_granted (Some creator_owner) (Some (inherited_entries g kind es)) g other b
    ≡ is_granted (Some owner) (Some (handed_to g kind owner group es)) g t b

-- and each token without the two SIDs has one: with CREATOR OWNER in the state that it has the owner in, and CREATOR
-- GROUP in that of the group
abbrev pub in_its_state : TokenValue → SidValue → SidValue → List (SidValue × GroupState)
in_its_state t s name =
    if stands_for t Allow s then (name, Enabled) ∷ []
    else if stands_for t Deny s then (name, DenyOnly) ∷ []
    else []

abbrev pub where_restricting : TokenValue → SidValue → SidValue → List SidValue
where_restricting t s name = if is_restricting t s then name ∷ [] else []

abbrev pub stand_in : SidValue → SidValue → TokenValue → TokenValue
stand_in owner group t = record t {
  groups = in_its_state t owner creator_owner ++ (in_its_state t group creator_group ++ t.groups);
  restricting = where_restricting t owner creator_owner ++ (where_restricting t group creator_group ++ t.restricting);
}

-- a token that nobody made up: none has these SIDs
pub record HasNoCreator (t : TokenValue) : Type 0 where
  pub owner : stands_for t Deny creator_owner ≡ false
  pub group : stands_for t Deny creator_group ≡ false
  pub owner_again : is_restricting t creator_owner ≡ false
  pub group_again : is_restricting t creator_group ≡ false

abbrev pub EachHasAStandIn : Type 0
EachHasAStandIn =
    (owner group : SidValue) (t : TokenValue) → HasNoCreator t → StandsIn owner group t (stand_in owner group t)

-- ---- a user whom neither descriptor names

abbrev pub with_user : TokenValue → SidValue → TokenValue
with_user t user = record t { user = user }

-- any other such user gains by the change what this one does
abbrev pub UnnamedUsersAreAlike : Type 0
UnnamedUsersAreAlike =
    (g : MappingValue) (old new : Parts) (t : TokenValue) (other : SidValue) (b : ℕ)
    → is_named old t.user ≡ false → is_named new t.user ≡ false
    → is_named old other ≡ false → is_named new other ≡ false
    → gains g old new (with_user t other) b ≡ gains g old new t b
