-- What follows from the rules, over all objects, lists and entries.
use Rattle.std.specs.Prelude.{◌≡◌, true, false, ◌||◌, if◌then◌else◌, List, [], map, Ok}
use Rattle.std.specs.List.{filter, flat_map}
use Rattle.sd_acl.specs.declared.ace.Ace.{Ace}
use Rattle.sd_acl.specs.declared.descriptor.DaclOf.{DaclOf}
use Rattle.sd_acl.specs.declared.descriptor.DaclOf.TheVariants.{Absent, Null, List as Entries}
use Rattle.sd_inheritance.specs.Inheritance.{pass_on}
use Rattle.sd_whole.specs.Values.{WholeListValue}
use Rattle.sd_whole.specs.Writing.{is_without}
use Rattle.sd_whole.specs.declared.ace.WholeAce.{WholeAce}
use Rattle.sd_whole.specs.declared.ace.WholeAce.TheVariants.{Plain}
use Rattle.sd_whole.specs.declared.descriptor.WholeDescriptor.{WholeDescriptor}
use Rattle.sd_wire.specs.Reading.{is_set}
use Rattle.sd_create.specs.Entry.{NewValue, given_copies, is_inherited}
use Rattle.sd_create.specs.Acl.{SourcesValue, computed, contains_inheritable, inherited, is_followed, is_of_parent}
use Rattle.sd_create.specs.Acl.{stays_protected}
use Rattle.sd_create.specs.Propagation.{InheritanceValue, descriptor_after, held, renewed}

-- of allows and denies an object inherits what a child in a tree does
abbrev pub PlainIsAsInATree : Type 0
PlainIsAsInATree = (o : NewValue) (es : List Ace)
    → inherited o (map Plain es) ≡ map Plain (flat_map (pass_on o.mapping o.kind o.owner o.group) es)

-- the entries of a list that are inherited
abbrev pub inherited_part : DaclOf (List WholeAce) → List WholeAce
inherited_part Absent = []
inherited_part Null = []
inherited_part (Entries es) = filter is_inherited es

-- the inherited entries of an object with a list of its own follow from its parent's list alone: they are all that it
-- passes on, or none
abbrev pub InheritedFollowsTheParent : Type 0
InheritedFollowsTheParent = (o : NewValue) (s : SourcesValue) (given : WholeListValue) → s.given ≡ Entries given
    → inherited_part (computed o s) ≡ (if (is_of_parent s || is_followed s) then inherited o s.parent else [])

-- so do those of one without, where the parent's list passes on anything: they are all that it has
abbrev pub WithoutAListTheParentDecides : Type 0
WithoutAListTheParentDecides = (o : NewValue) (s : SourcesValue) → is_without s.given ≡ true
    → contains_inheritable s.parent ≡ true → computed o s ≡ Entries (inherited o s.parent)

-- a protected list takes nothing from the parent, unless it counts only for lack of entries to inherit
abbrev pub ProtectedTakesNothing : Type 0
ProtectedTakesNothing = (o : NewValue) (s : SourcesValue) (given : WholeListValue) → s.given ≡ Entries given
    → s.is_protected ≡ true → s.is_default ≡ false
    → computed o s ≡ Entries (flat_map (given_copies o) given.entries)

-- ---- what is inherited again

-- to inherit twice is to inherit once
abbrev pub TwiceIsOnce : Type 0
TwiceIsOnce = (o : NewValue) (parent : List WholeAce) (acl : DaclOf (List WholeAce))
    → renewed o parent (renewed o parent acl) ≡ renewed o parent acl

-- what a new object got by DACL_AUTO_INHERIT or SACL_AUTO_INHERIT stays as it is while the parent does, where the
-- token's list has no inherited entries
abbrev pub CreatedStays : Type 0
CreatedStays = (o : NewValue) (s : SourcesValue) → s.is_automatic ≡ true → stays_protected s ≡ false
    → inherited_part (held s.otherwise) ≡ [] → renewed o s.parent (computed o s) ≡ computed o s

-- a protected list stays as it is
abbrev pub ProtectedStays : Type 0
ProtectedStays = (i : InheritanceValue) (d : WholeDescriptor) → descriptor_after i ≡ Ok d
    → (is_set 0x1000 i.child.control ≡ true → d.dacl ≡ i.child.dacl)
    × (is_set 0x2000 i.child.control ≡ true → d.sacl ≡ i.child.sacl)
