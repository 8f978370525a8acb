-- What is handed on of a copy that counts for one node alone: nothing.
use Rattle.std.proofs.Common.{◌≡◌, ℕ, Bool, true, false, ◌&&◌, ◌||◌, cond, List, [], ◌∷◌, bit_and, bit_or, refl, ◌∙◌, ap, ap₂, append-nil}
use Rattle.std.specs.List.{flat_map}
use Rattle.std.proofs.Math.Bool.{and-false}
use Rattle.sd_sid.specs.Mask.{holds}
use Rattle.sd_sid.specs.Mapping.{MappingValue}
use Rattle.sd_sid.specs.Sid.{SidValue}
use Rattle.sd_sid.proofs.Masks.{holds-or, holds-and}
use Rattle.sd_acl.specs.declared.ace.Ace.{Ace}
use Rattle.sd_inheritance.specs.Inheritance.{object_inherit, container_inherit, effective_copy, pass_on}
use Rattle.sd_inheritance.specs.declared.kind.NodeKind.{NodeKind}
use Rattle.sd_inheritance.specs.declared.kind.NodeKind.TheVariants.{Container, Object}

-- ---- flags that are kept, and one that is set

pub flag_of : (f kept set b : ℕ) → holds (bit_or (bit_and f kept) set) b ≡ ((holds f b && holds kept b) || holds set b)
flag_of f kept set b = holds-or (bit_and f kept) set b ∙ ap (λ x. x || holds set b) (holds-and f kept b)

pub flag_off : (f kept set b : ℕ) → holds kept b ≡ false → holds set b ≡ false → holds (bit_or (bit_and f kept) set) b ≡ false
flag_off f kept set b h k = flag_of f kept set b ∙ ap₂ (λ x y. (holds f b && x) || y) h k ∙ ap (λ x. x || false) (and-false (holds f b))

-- ---- an entry that speaks of no children

pub unmarked_stays : (g : MappingValue) (kind : NodeKind) (owner group : SidValue) (e : Ace)
    → object_inherit e ≡ false → container_inherit e ≡ false → pass_on g kind owner group e ≡ []
unmarked_stays g Object owner group e no_object no_container = rw no_object refl
unmarked_stays g Container owner group e no_object no_container = rw (no_container, no_object) refl

pub effective_off : (g : MappingValue) (owner group : SidValue) (e : Ace) (b : ℕ) → holds 0xC0 b ≡ false → holds 0x10 b ≡ false → holds (effective_copy g owner group e).flags.0 b ≡ false
effective_off g owner group e b h k = flag_off e.flags.0 0xC0 0x10 b h k

pub effective_hands_nothing : (g : MappingValue) (kind : NodeKind) (owner group next_owner next_group : SidValue) (e : Ace)
    → pass_on g kind next_owner next_group (effective_copy g owner group e) ≡ []
effective_hands_nothing g kind owner group next_owner next_group e =
    unmarked_stays g kind next_owner next_group (effective_copy g owner group e)
    (effective_off g owner group e 0 refl refl) (effective_off g owner group e 1 refl refl)

pub once : (h : Ace → List Ace) (object : Bool) (effective : Ace) → h effective ≡ [] → flat_map h (cond object (effective ∷ []) []) ≡ []
once h true effective e = append-nil (h effective) ∙ e
once h false effective e = refl
