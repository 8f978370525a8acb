-- The copies that an entry hands on: their flags and their kind.
use Rattle.sd_tree_laws.proofs.Cited.{Ace, Bool, Container, InheritedHasId, List, MappingValue, NoPropagateGoesOneLevel, NodeKind, None, NothingWaitsInAnObject, Object, SidValue, Some, UnmarkedEntryStays, [], ap, append-nil, bit_and, bit_or, cond, container_inherit, effective_copy, effective_hands_nothing, effective_off, false, flag_of, flat_map, holds, is_explicit, is_split, list_any, list_any-append, no_propagate, not, object_inherit, once, or_from, or_right, pass_on, refl, speaks_of_children, true, unmarked_stays, waiting_copy, whole_copy, ℕ, ◌&&◌, ◌∙◌, ◌∷◌, ◌≡◌}

-- ---- flags that are kept, and one that is set

pub flag_on : (f kept set b : ℕ) → holds set b ≡ true → holds (bit_or (bit_and f kept) set) b ≡ true
flag_on f kept set b k = flag_of f kept set b ∙ or_right (holds f b && holds kept b) (holds set b) k

-- ---- all copies of an entry

if_any : (p : Ace → Bool) (b : Bool) (xs ys : List Ace) → list_any p xs ≡ false → list_any p ys ≡ false → list_any p (cond b xs ys) ≡ false
if_any p true xs ys h k = h
if_any p false xs ys h k = k

one_any : (p : Ace → Bool) (e : Ace) → p e ≡ false → list_any p (e ∷ []) ≡ false
one_any p e h = or_from (p e) false h refl

module _ (p : Ace → Bool) (g : MappingValue) (owner group : SidValue) (e : Ace) where
  -- a test that each copy fails is failed by all that an entry hands on
  pub no_copy_passes : p (effective_copy g owner group e) ≡ false → p (waiting_copy e) ≡ false → p (whole_copy e) ≡ false
      → (kind : NodeKind) → list_any p (pass_on g kind owner group e) ≡ false
  no_copy_passes effective waiting whole Object = if_any p (object_inherit e) _ _ (one_any p _ effective) refl
  no_copy_passes effective waiting whole Container =
      if_any p (container_inherit e) _ _
      (if_any p (no_propagate e) _ _ (one_any p _ effective)
      (if_any p (is_split e) _ _ (or_from (p (effective_copy g owner group e)) _ effective (one_any p _ waiting)) (one_any p _ whole)))
      (if_any p (object_inherit e) _ _ (if_any p (no_propagate e) _ _ refl (one_any p _ waiting)) refl)

pub no_piece_passes : {X : Type 0} (p : Ace → Bool) (f : X → List Ace) (xs : List X) → ((x : X) → list_any p (f x) ≡ false) → list_any p (flat_map f xs) ≡ false
no_piece_passes p f [] h = refl
no_piece_passes p f (x ∷ xs) h = list_any-append p (f x) (flat_map f xs) ∙ or_from (list_any p (f x)) _ (h x) (no_piece_passes p f xs h)

-- ---- the laws of one entry

pub unmarked_entry_stays : UnmarkedEntryStays
unmarked_entry_stays = unmarked_stays

only_effective : (h : Ace → List Ace) (object container stops split : Bool) (effective waiting whole : Ace) → stops ≡ true → h effective ≡ []
    → flat_map h (cond container (cond stops (effective ∷ []) (cond split (effective ∷ waiting ∷ []) (whole ∷ []))) (cond object (cond stops [] (waiting ∷ [])) [])) ≡ []
only_effective h object true true split effective waiting whole np e = append-nil (h effective) ∙ e
only_effective h true false true split effective waiting whole np e = refl
only_effective h false false true split effective waiting whole np e = refl
only_effective h object container false split effective waiting whole np e = absurd cc

pub no_propagate_goes_one_level : NoPropagateGoesOneLevel
no_propagate_goes_one_level g Object next_kind owner group next_owner next_group e np =
    once (pass_on g next_kind next_owner next_group) (object_inherit e) (effective_copy g owner group e)
    (effective_hands_nothing g next_kind owner group next_owner next_group e)
no_propagate_goes_one_level g Container next_kind owner group next_owner next_group e np =
    only_effective (pass_on g next_kind next_owner next_group) (object_inherit e) (container_inherit e) (no_propagate e) (is_split e)
    (effective_copy g owner group e) (waiting_copy e) (whole_copy e) np
    (effective_hands_nothing g next_kind owner group next_owner next_group e)

-- ---- the laws of what is inherited

effective_speaks_not : (g : MappingValue) (owner group : SidValue) (e : Ace) → speaks_of_children (effective_copy g owner group e) ≡ false
effective_speaks_not g owner group e =
    or_from _ _ (effective_off g owner group e 0 refl refl)
    (or_from _ _ (effective_off g owner group e 1 refl refl)
    (or_from _ _ (effective_off g owner group e 2 refl refl) (effective_off g owner group e 3 refl refl)))

object_waits_not : (g : MappingValue) (owner group : SidValue) (kind : NodeKind) (e : Ace) → kind ≡ Object → list_any speaks_of_children (pass_on g kind owner group e) ≡ false
object_waits_not g owner group Object e is = if_any speaks_of_children (object_inherit e) _ _ (one_any speaks_of_children (effective_copy g owner group e) (effective_speaks_not g owner group e)) refl
object_waits_not g owner group Container e is = absurd cc

pub nothing_waits_in_an_object : NothingWaitsInAnObject
nothing_waits_in_an_object g row None is = refl
nothing_waits_in_an_object g row (Some above) is =
    no_piece_passes speaks_of_children (pass_on g row.kind row.owner row.group) above (λ e. object_waits_not g row.owner row.group row.kind e is)

told : (f kept set : ℕ) → holds set 4 ≡ true → not (holds (bit_or (bit_and f kept) set) 4) ≡ false
told f kept set h = ap not (flag_on f kept set 4 h)

pub inherited_has_id : InheritedHasId
inherited_has_id g row None = refl
inherited_has_id g row (Some above) =
    no_piece_passes is_explicit (pass_on g row.kind row.owner row.group) above
    (λ e. no_copy_passes is_explicit g row.owner row.group e
    (told e.flags.0 0xC0 0x10 refl) (told e.flags.0 0xC3 0x18 refl) (told e.flags.0 0xC3 0x10 refl) row.kind)
