-- Where no change has a line, each bit is granted as before.
use Rattle.sd_review.proofs.Cited.{Ace, All, All-cons, All-head, All-nil, All-tail, AreDescendantChanges, AreGains, AreGrantedAlike, Bool, Change, Container, ContainerBelow, Descendant, DescendantChange, HasBase, IsDescendantChange, LineOf, List, MappingValue, Object, ObjectBelow, Parts, [], arith, below_is_as_in_it, descendant_parts, descendants_of, false, flat_map, is_granted, list_of, map, one_answer, parts_empty, refl, stops_somewhere, subst, suc, sym, true, zero, ◌||◌, ◌∷◌, ◌≡◌}

-- without gains and losses a bit is granted by both or by neither
pub alike : (g : MappingValue) (old new : Parts) (gained lost : List Change) → AreGains g [] old new gained → AreGains g [] new old lost
    → (gained ≡ []) × (lost ≡ []) → AreGrantedAlike g old new
alike g old new gained lost gains losses none t b =
    let base : HasBase [] t = λ kind s stands. absurd (cc (stands)) in
    let more = rw none.0 at gains in
    let less = rw none.1 at losses in
    one_answer {P = is_granted new.owner new.dacl g t b ≡ true} _ _ (less.complete t b base refl, more.complete t b base refl) (λ is. is, λ is. is)

-- of one kind of what is made in a container
abbrev pub IsAlike : MappingValue → List Ace → List Ace → Descendant → Type 0
IsAlike g old new d = AreGrantedAlike g (descendant_parts (list_of g d old)) (descendant_parts (list_of g d new))

neither : (x y : Bool) → (x || y) ≡ false → (x ≡ false) × (y ≡ false)
neither true y none = absurd (cc (none))
neither false y none = (refl, none)

module _ (g : MappingValue) (old new : List Ace) where
  -- no change of a list has a line
  all_alike : (lines : DescendantChange → List LineOf)
      → ((c : DescendantChange) → IsDescendantChange g [] old new c → lines c ≡ [] → IsAlike g old new c.descendant)
      → (changes : List DescendantChange) → All (IsDescendantChange g [] old new) changes → flat_map lines changes ≡ []
      → All (IsAlike g old new) (map (λ (c : DescendantChange). c.descendant) changes)
  all_alike lines silent [] right none = All-nil (IsAlike g old new)
  all_alike lines silent (c ∷ changes) right none =
      let parts = parts_empty (lines c) (flat_map lines changes) none in
      All-cons (IsAlike g old new) c.descendant (map (λ (c : DescendantChange). c.descendant) changes)
      (silent c (All-head (IsDescendantChange g [] old new) c changes right) parts.0)
      (all_alike lines silent changes (All-tail (IsDescendantChange g [] old new) c changes right) parts.1)

  deeper : (d e : Descendant) → list_of g d old ≡ list_of g e old → list_of g d new ≡ list_of g e new → IsAlike g old new e → IsAlike g old new d
  deeper d e was is same =
      subst (λ (es : List Ace). AreGrantedAlike g (descendant_parts es) (descendant_parts (list_of g d new))) (sym was)
      (subst (λ (es : List Ace). AreGrantedAlike g (descendant_parts (list_of g e old)) (descendant_parts es)) (sym is) same)

  any_alike : (stops : Bool) → (stops_somewhere old || stops_somewhere new) ≡ stops → All (IsAlike g old new) (descendants_of stops) → (d : Descendant) → IsAlike g old new d
  any_alike true is all Object = all zero Object (omega arith)
  any_alike true is all Container = all (suc zero) Object (omega arith)
  any_alike true is all ObjectBelow = all (suc (suc zero)) Object (omega arith)
  any_alike true is all ContainerBelow = all (suc (suc (suc zero))) Object (omega arith)
  any_alike false is all Object = all zero Object (omega arith)
  any_alike false is all Container = all (suc zero) Object (omega arith)
  any_alike false is all ObjectBelow =
      let goes = neither (stops_somewhere old) (stops_somewhere new) is in
      deeper ObjectBelow Object (below_is_as_in_it g old goes.0).0 (below_is_as_in_it g new goes.1).0 (all zero Object (omega arith))
  any_alike false is all ContainerBelow =
      let goes = neither (stops_somewhere old) (stops_somewhere new) is in
      deeper ContainerBelow Container (below_is_as_in_it g old goes.0).1 (below_is_as_in_it g new goes.1).1 (all (suc zero) Object (omega arith))

  -- where no change has a line
  pub each_alike : (lines : DescendantChange → List LineOf)
      → ((c : DescendantChange) → IsDescendantChange g [] old new c → lines c ≡ [] → IsAlike g old new c.descendant)
      → (changes : List DescendantChange) → AreDescendantChanges g [] old new changes → flat_map lines changes ≡ []
      → (d : Descendant) → IsAlike g old new d
  each_alike lines silent changes are none =
      any_alike (stops_somewhere old || stops_somewhere new) refl
      (subst (All (IsAlike g old new)) are.each (all_alike lines silent changes are.right none))
