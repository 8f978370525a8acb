-- What becomes of one entry, of any type, in a new object ([MS-DTYP] 2.5.3.4): of the parent's, what the object
-- inherits, and of the object's own. For an allow or a deny that is inherited it is the rule of `sd_inheritance`.
use Rattle.std.specs.Prelude.{ℕ, Bool, true, false, ◌&&◌, ◌||◌, bit_and, bit_or, if◌then◌else◌, List, [], ◌∷◌}
use Rattle.std.specs.Prelude.{Option, Some, None}
use Rattle.std.specs.List.{list_any}
use Rattle.std.specs.Str.{bytes_eq}
use Rattle.sd_sid.specs.Mask.{holds}
use Rattle.sd_sid.specs.Mapping.{MappingValue, mapped}
use Rattle.sd_sid.specs.Sid.{SidValue, same_sid}
use Rattle.sd_acl.specs.Ace.{passes_on}
use Rattle.sd_inheritance.specs.Inheritance.{created_by, creator_group, creator_owner}
use Rattle.sd_inheritance.specs.declared.kind.NodeKind.{NodeKind}
use Rattle.sd_inheritance.specs.declared.kind.NodeKind.TheVariants.{Container, Object}
use Rattle.sd_whole.specs.Entry.{flags_of, for_children_alone}
use Rattle.sd_whole.specs.declared.ace.WholeAce.{WholeAce}
use Rattle.sd_whole.specs.declared.ace.WholeAce.TheVariants.{Plain, Typed, Opaque}
use Rattle.sd_whole.specs.declared.types.Guid.{Guid}
use Rattle.sd_create.specs.declared.object.NewObject.{NewObject}

-- a new object: its kind, its classes (ObjectTypes), its owner and group, and what generic rights are for it
pub record NewValue : Type 0 where
  pub kind : NodeKind
  pub types : List Guid
  pub owner : SidValue
  pub group : SidValue
  pub mapping : MappingValue

abbrev pub new_of : NewObject → NewValue
new_of o = record { kind = o.kind; types = o.types.now; owner = o.owner; group = o.group; mapping = o.mapping.now }

-- ---- copies

-- with these flags, and all else as it is
abbrev pub with_flags : ℕ → WholeAce → WholeAce
with_flags flags (Plain e) = Plain (record e { flags = record { 0 = flags } })
with_flags flags (Typed e) = Typed (record e { flags = record { 0 = flags } })
with_flags flags (Opaque e) = Opaque (record e { flags = record { 0 = flags } })

-- with these flags, generic rights mapped, and the object's owner and group in the places of CREATOR OWNER and CREATOR
-- GROUP (PostProcessACL); an entry without a layout has neither
abbrev pub concrete : NewValue → ℕ → WholeAce → WholeAce
concrete o flags (Plain e) = Plain (record e {
  flags = record { 0 = flags };
  mask = mapped o.mapping e.mask;
  sid = created_by o.owner o.group e.sid;
})
concrete o flags (Typed e) = Typed (record e {
  flags = record { 0 = flags };
  mask = mapped o.mapping e.mask;
  sid = created_by o.owner o.group e.sid;
})
concrete o flags (Opaque e) = with_flags flags (Opaque e)

-- it names a generic right, or CREATOR OWNER or CREATOR GROUP
abbrev pub is_open : ℕ → SidValue → Bool
is_open mask sid =
    (holds mask 28 || holds mask 29 || holds mask 30 || holds mask 31)
    || (same_sid sid creator_owner || same_sid sid creator_group)

-- what counts for the object differs from what it hands on
abbrev pub is_split : WholeAce → Bool
is_split (Plain e) = is_open e.mask e.sid
is_split (Typed e) = is_open e.mask e.sid
is_split (Opaque e) = false

-- ---- what an object inherits of an entry of its parent (ComputeInheritedACLFromParent). Each copy has ID, and keeps
-- ---- SA and FA

-- counts for the object, which doesn't hand it on
abbrev pub effective_copy : NewValue → WholeAce → WholeAce
effective_copy o e = concrete o (bit_or (bit_and (flags_of e) 0xC0) 0x10) e

-- waits in a container to be handed on: inherit-only
abbrev pub waiting_copy : WholeAce → WholeAce
waiting_copy e = with_flags (bit_or (bit_and (flags_of e) 0xC3) 0x18) e

-- counts, and is handed on
abbrev pub whole_copy : WholeAce → WholeAce
whole_copy e = with_flags (bit_or (bit_and (flags_of e) 0xC3) 0x10) e

-- the class is one of the object's
abbrev pub is_one_of : List Guid → Guid → Bool
is_one_of types class = list_any (λ (type : Guid). bytes_eq type.bytes class.bytes) types

-- an entry with an InheritedObjectType is for objects of that class alone (2.4.4.3)
abbrev pub is_for : List Guid → Option Guid → Bool
is_for types None = true
is_for types (Some class) = is_one_of types class

abbrev pub is_for_class : NewValue → WholeAce → Bool
is_for_class o (Plain e) = true
is_for_class o (Typed e) = is_for o.types e.types.inherited
is_for_class o (Opaque e) = true

abbrev pub to_object : NewValue → WholeAce → List WholeAce
to_object o e = if (holds (flags_of e) 0 && is_for_class o e) then effective_copy o e ∷ [] else []

-- in a container of another class it waits for those of its own
abbrev pub to_container : NewValue → WholeAce → List WholeAce
to_container o e =
    if (holds (flags_of e) 1 && is_for_class o e) then
    (if holds (flags_of e) 2 then effective_copy o e ∷ []
    else if is_split e then effective_copy o e ∷ waiting_copy e ∷ []
    else whole_copy e ∷ [])
    else if passes_on (flags_of e) then (if holds (flags_of e) 2 then [] else waiting_copy e ∷ [])
    else []

abbrev pub by_kind : NodeKind → NewValue → WholeAce → List WholeAce
by_kind Object o e = to_object o e
by_kind Container o e = to_container o e

abbrev pub inherited_copies : NewValue → WholeAce → List WholeAce
inherited_copies o e = by_kind o.kind o e

-- ---- what an entry of the object's own becomes (ComputeInheritedACLFromCreator and PostProcessACL)

-- the object hands on entries with these flags
abbrev pub hands_on : NodeKind → ℕ → Bool
hands_on Object flags = false
hands_on Container flags = passes_on flags

-- an inherit-only one stays as it is, and the others become concrete; where a container passes on what it was, that
-- waits beside it
abbrev pub own_copies : NewValue → WholeAce → List WholeAce
own_copies o e =
    if for_children_alone (flags_of e) then e ∷ []
    else if (hands_on o.kind (flags_of e) && is_split e) then
    concrete o (bit_and (flags_of e) 0xC0) e ∷ with_flags (bit_or (flags_of e) 0x08) e ∷ []
    else concrete o (flags_of e) e ∷ []

-- the entry was inherited (2.4.4.1, INHERITED_ACE)
abbrev pub is_inherited : WholeAce → Bool
is_inherited e = holds (flags_of e) 4

-- of what the creator gave, entries that were inherited elsewhere are left out (PreProcessACLFromCreator)
abbrev pub given_copies : NewValue → WholeAce → List WholeAce
given_copies o e = if is_inherited e then [] else own_copies o e
