-- What a change of a node comes to, for all tokens.
use Rattle.std.specs.Prelude.{◌≡◌, ◌⊎◌, Bool, true, false, List, [], Option, Some, None}
use Rattle.sd_sid.specs.Mapping.{MappingValue}
use Rattle.sd_acl.specs.declared.ace.Ace.{Ace}
use Rattle.sd_acl.specs.Descriptor.{DescriptorValue, descriptor_of}
use Rattle.sd_path.specs.Names.{Names}
use Rattle.sd_edit.specs.Answers.{descriptor_at, kind_at}
use Rattle.sd_inheritance.specs.declared.kind.NodeKind.{NodeKind}
use Rattle.sd_inheritance.specs.declared.kind.NodeKind.TheVariants.{Container}
use Rattle.sd_analysis.specs.Compare.{AreGains}
use Rattle.sd_analysis.specs.Descendants.{AreDescendantChanges, list_of}
use Rattle.sd_analysis.specs.Sufficient.{Parts, entries_or_none}
use Rattle.sd_analysis.specs.declared.descendants.Descendant.{Descendant}
use Rattle.sd_analysis.specs.declared.descendants_compare.DescendantChange.{DescendantChange}
use Rattle.sd_answer.specs.Parts.{parts_in}
use Rattle.sd_review.specs.Review.{Trees}
use Rattle.sd_review.specs.declared.compared.Compared.{Compared}

-- a descriptor, as far as a review looks at it: as a check does, and whether its list is protected from inheritance
pub record ReviewParts : Type 0 where
  pub own : Parts
  pub protected : Bool

abbrev pub review_parts_in : DescriptorValue → ReviewParts
review_parts_in d = record { own = parts_in d; protected = d.protected }

-- what tokens gain and lose of what is made in a node where the new list takes the place of the old one. In an object
-- nothing is made; and all that is made in a container may inherit the same of both lists
abbrev pub AreChangesBelow :
    MappingValue → (is_container : Bool) → (old new : List Ace) → List DescendantChange → Type 0
AreChangesBelow g false old new changes = changes ≡ []
AreChangesBelow g true old new changes =
    AreDescendantChanges g [] old new changes
    ⊎ (((d : Descendant) → list_of g d old ≡ list_of g d new) × (changes ≡ []))

-- what all tokens gain and lose where the second descriptor takes the place of the first, at a node and of what is made
-- in it
pub record IsOf (g : MappingValue) (is_container : Bool) (before after : ReviewParts) (c : Compared) : Type 0 where
  pub container : c.is_container ≡ is_container
  pub old : review_parts_in (descriptor_of c.before) ≡ before
  pub new : review_parts_in (descriptor_of c.after) ≡ after
  pub gained : AreGains g [] before.own after.own c.comparison.gained.items
  pub lost : AreGains g [] after.own before.own c.comparison.lost.items
  pub same : before.own ≡ after.own → (c.comparison.gained.items ≡ []) × (c.comparison.lost.items ≡ [])
  pub below : AreChangesBelow g is_container (entries_or_none before.own.dacl) (entries_or_none after.own.dacl)
      c.below.items

-- it is the comparison of its descriptors
abbrev pub IsRight : MappingValue → Compared → Type 0
IsRight g c =
    IsOf g c.is_container (review_parts_in (descriptor_of c.before)) (review_parts_in (descriptor_of c.after)) c

-- what all tokens gain and lose where one node takes the place of another, if both are there
abbrev pub IsOfBoth :
    MappingValue → (is_container : Bool) → Option DescriptorValue → Option DescriptorValue → Option Compared → Type 0
IsOfBoth g is_container (Some before) (Some after) (Some c) =
    IsOf g is_container (review_parts_in before) (review_parts_in after) c
IsOfBoth g is_container (Some before) (Some after) None = ⊥
IsOfBoth g is_container (Some before) None c = c ≡ None
IsOfBoth g is_container None after c = c ≡ None

-- whether nodes are made in a node of the kind
abbrev pub is_container : Option NodeKind → Bool
is_container (Some Container) = true
is_container kind = false

-- the node at a path of the new tree beside the node at a path of the old one
abbrev pub IsComparedAt : Trees → Names → Names → Option Compared → Type 0
IsComparedAt ts before path c =
    IsOfBoth ts.mapping (is_container (kind_at ts.new path)) (descriptor_at ts.mapping ts.old before)
    (descriptor_at ts.mapping ts.new path) c

-- a comparison is of these
abbrev pub HasParts : (is_container : Bool) → (before after : ReviewParts) → Option Compared → Type 0
HasParts is_container before after None = ⊥
HasParts is_container before after (Some c) =
    (c.is_container ≡ is_container) × (review_parts_in (descriptor_of c.before) ≡ before)
    × (review_parts_in (descriptor_of c.after) ≡ after)
