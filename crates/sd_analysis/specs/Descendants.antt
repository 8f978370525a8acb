-- What a list decides of what is made in its container: the lists of new objects and containers in it, and below new
-- containers. A child's owner and group are open: CREATOR OWNER and CREATOR GROUP stand for them, which no effective
-- inherited entry names else ([MS-DTYP] 2.5.3.4).
use Rattle.std.specs.Prelude.{◌≡◌, ℕ, Bool, ◌||◌, if◌then◌else◌, List, [], ◌∷◌, map, Some}
use Rattle.std.specs.List.{All, flat_map, list_any}
use Rattle.sd_sid.specs.Mapping.{MappingValue}
use Rattle.sd_sid.specs.Sid.{SidValue}
use Rattle.sd_acl.specs.declared.ace.Ace.{Ace}
use Rattle.sd_check.specs.declared.token.GroupState.{GroupState}
use Rattle.sd_inheritance.specs.Inheritance.{creator_group, creator_owner, no_propagate, pass_on}
use Rattle.sd_inheritance.specs.declared.kind.NodeKind.{NodeKind}
use Rattle.sd_inheritance.specs.declared.kind.NodeKind.TheVariants as kinds
use Rattle.sd_analysis.specs.Compare.{AreGains}
use Rattle.sd_analysis.specs.Sufficient.{Parts, parts_with}
use Rattle.sd_analysis.specs.declared.descendants.Descendant.{Descendant}
use Rattle.sd_analysis.specs.declared.descendants.Descendant.TheVariants.{Object, Container}
use Rattle.sd_analysis.specs.declared.descendants.Descendant.TheVariants.{ObjectBelow, ContainerBelow}
use Rattle.sd_analysis.specs.declared.descendants_compare.DescendantChange.{DescendantChange}
use Rattle.sd_analysis.specs.declared.descendants_who.DescendantAccess.{DescendantAccess}
use Rattle.sd_analysis.specs.Who.{AllBeyond, HasEachOnce, IsMost, IsWho}

-- what the entries hand on to a child of the kind
abbrev pub inherited_entries : MappingValue → NodeKind → List Ace → List Ace
inherited_entries g kind es = flat_map (pass_on g kind creator_owner creator_group) es

-- the list of a descendant that has no entry of its own
abbrev pub list_of : MappingValue → Descendant → List Ace → List Ace
list_of g Object es = inherited_entries g kinds.Object es
list_of g Container es = inherited_entries g kinds.Container es
list_of g ObjectBelow es = inherited_entries g kinds.Object (inherited_entries g kinds.Container es)
list_of g ContainerBelow es = inherited_entries g kinds.Container (inherited_entries g kinds.Container es)

-- with that list, as far as a check looks at it
abbrev pub descendant_parts : List Ace → Parts
descendant_parts es = parts_with (Some creator_owner) es

-- which descendants two lists decide about: those below new containers by themselves only where an entry isn't handed
-- on below them
abbrev pub stops_somewhere : List Ace → Bool
stops_somewhere es = list_any (λ (e : Ace). no_propagate e) es

abbrev pub descendants_of : Bool → List Descendant
descendants_of stops =
    if stops then Object ∷ Container ∷ ObjectBelow ∷ ContainerBelow ∷ [] else Object ∷ Container ∷ []

-- what tokens gain and lose of such a descendant where the new list takes the place of the old one
pub record IsDescendantChange (g : MappingValue) (base : List (SidValue × GroupState)) (old new : List Ace)
    (c : DescendantChange) : Type 0 where
  pub before : c.before.items ≡ list_of g c.descendant old
  pub after : c.after.items ≡ list_of g c.descendant new
  pub gained : AreGains g base (descendant_parts c.before.items) (descendant_parts c.after.items)
      c.comparison.gained.items
  pub lost : AreGains g base (descendant_parts c.after.items) (descendant_parts c.before.items)
      c.comparison.lost.items
  pub same : c.before.items ≡ c.after.items → (c.comparison.gained.items ≡ []) × (c.comparison.lost.items ≡ [])

-- the changes are those of each descendant
pub record AreDescendantChanges (g : MappingValue) (base : List (SidValue × GroupState)) (old new : List Ace)
    (changes : List DescendantChange) : Type 0 where
  pub each : map (λ (c : DescendantChange). c.descendant) changes
      ≡ descendants_of (stops_somewhere old || stops_somewhere new)
  pub right : All (IsDescendantChange g base old new) changes

-- who is granted which of the rights, of such a descendant of a container with this list
pub record IsDescendantAccess (g : MappingValue) (base : List (SidValue × GroupState)) (es : List Ace) (rights : ℕ)
    (a : DescendantAccess) : Type 0 where
  pub list : a.list.items ≡ list_of g a.descendant es
  pub exact : IsWho (Some creator_owner) (Some a.list.items) g base rights a.accesses.items
  pub most : IsMost (Some creator_owner) (Some a.list.items) g base rights a.accesses.items
  pub once : HasEachOnce rights a.accesses.items
  pub beyond : AllBeyond base a.accesses.items

-- each descendant has its own
pub record AreDescendantAccesses (g : MappingValue) (base : List (SidValue × GroupState)) (es : List Ace) (rights : ℕ)
    (all : List DescendantAccess) : Type 0 where
  pub each : map (λ (a : DescendantAccess). a.descendant) all ≡ descendants_of (stops_somewhere es)
  pub right : All (IsDescendantAccess g base es rights) all
