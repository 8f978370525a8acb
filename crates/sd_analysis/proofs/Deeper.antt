-- What is handed on below new containers, where each entry is handed on to any depth: what new containers hand on is
-- what the container above hands on.
use Rattle.sd_analysis.proofs.Cited.{Ace, BelowIsAsInIt, Bool, List, MappingValue, NodeKind, [], and-false, and-true, and_assoc, and_or_apart, ap, append-nil, ap₂, bit_and, bit_or, cases_Bool, cond, container_inherit, creator_group, creator_owner, effective_copy, effective_hands_nothing, false, flag_of, flat_map, flat_map-append, holds, inherited_entries, inl, inr, is_split, list_any, mapped, no_propagate, object_inherit, or-false, or_parts, pass_on, refl, stops_somewhere, sym, true, unmarked_stays, waiting_copy, whole_copy, ℕ, ◌&&◌, ◌++◌, ◌||◌, ◌∙◌, ◌∷◌, ◌≡◌}
use Rattle.sd_inheritance.specs.declared.kind.NodeKind.TheVariants.{Container, Object}

-- a copy that is handed on, with flags for itself
abbrev copied : ℕ → Ace → Ace
copied set e = record e { flags = record { 0 = bit_or (bit_and e.flags.0 0xC3) set } }

kept_flags : (f set kept : ℕ) → bit_and set kept ≡ 0 → bit_and 0xC3 kept ≡ kept
    → bit_and (bit_or (bit_and f 0xC3) set) kept ≡ bit_and f kept
kept_flags f set kept apart within =
    and_or_apart kept (bit_and f 0xC3) set apart ∙ and_assoc kept f 0xC3 ∙ ap (bit_and f) within

kept_flag : (f set b : ℕ) → holds 0xC3 b ≡ true → holds set b ≡ false → holds (bit_or (bit_and f 0xC3) set) b ≡ holds f b
kept_flag f set b kept unset =
    flag_of f 0xC3 set b ∙ ap₂ (λ x y. (holds f b && x) || y) kept unset ∙ or-false (holds f b && true) ∙ and-true (holds f b)

gone_flag : (f set b : ℕ) → holds 0xC3 b ≡ false → holds set b ≡ false → holds (bit_or (bit_and f 0xC3) set) b ≡ false
gone_flag f set b kept unset =
    flag_of f 0xC3 set b ∙ ap₂ (λ x y. (holds f b && x) || y) kept unset ∙ or-false (holds f b && false) ∙ and-false (holds f b)

module _ (g : MappingValue) (e : Ace) (goes : no_propagate e ≡ false) (set : ℕ)
    (apart : bit_and set 0xC0 ≡ 0) (apart_all : bit_and set 0xC3 ≡ 0)
    (object_off : holds set 0 ≡ false) (container_off : holds set 1 ≡ false) (stop_off : holds set 2 ≡ false)
  where
    effective_alike : effective_copy g creator_owner creator_group (copied set e) ≡ effective_copy g creator_owner creator_group e
    effective_alike = ap (λ n. record (effective_copy g creator_owner creator_group e) { flags = record { 0 = bit_or n 0x10 } }) (kept_flags e.flags.0 set 0xC0 apart refl)

    waiting_alike : waiting_copy (copied set e) ≡ waiting_copy e
    waiting_alike = ap (λ n. record e { flags = record { 0 = bit_or n 0x18 } }) (kept_flags e.flags.0 set 0xC3 apart_all refl)

    whole_alike : whole_copy (copied set e) ≡ whole_copy e
    whole_alike = ap (λ n. record e { flags = record { 0 = bit_or n 0x10 } }) (kept_flags e.flags.0 set 0xC3 apart_all refl)

    passes_alike : (kind : NodeKind) → pass_on g kind creator_owner creator_group (copied set e) ≡ pass_on g kind creator_owner creator_group e
    passes_alike Object = ap₂ (λ object effective. cond object (effective ∷ []) []) (kept_flag e.flags.0 set 0 refl object_off) effective_alike
    passes_alike Container =
        let object = kept_flag e.flags.0 set 0 refl object_off in
        let container = kept_flag e.flags.0 set 1 refl container_off in
        let stops = gone_flag e.flags.0 set 2 refl stop_off ∙ sym goes in
        λ i. cond (container i)
        (cond (stops i) (effective_alike i ∷ []) (cond (is_split e) (effective_alike i ∷ waiting_alike i ∷ []) (whole_alike i ∷ [])))
        (cond (object i) (cond (stops i) [] (waiting_alike i ∷ [])) [])

module _ (g : MappingValue) (kind : NodeKind) where
  abbrev h : Ace → List Ace
  h = pass_on g kind creator_owner creator_group

  alone : (one e : Ace) → h one ≡ h e → flat_map h (one ∷ []) ≡ h e
  alone one e same = append-nil (h one) ∙ same

  waits_alike : (e : Ace) → no_propagate e ≡ false → h (waiting_copy e) ≡ h e
  waits_alike e goes = passes_alike g e goes 0x18 refl refl refl refl refl kind

  whole_passes : (e : Ace) → no_propagate e ≡ false → h (whole_copy e) ≡ h e
  whole_passes e goes = passes_alike g e goes 0x10 refl refl refl refl refl kind

  below_one : (e : Ace) → no_propagate e ≡ false → flat_map h (pass_on g Container creator_owner creator_group e) ≡ h e
  below_one e goes = elim (cases_Bool (container_inherit e)) [
    | inl so ↦ elim (cases_Bool (is_split e)) [
      | inl split ↦ rw (so, goes, split)
          (ap (λ xs. xs ++ (h (waiting_copy e) ++ [])) (effective_hands_nothing g kind creator_owner creator_group creator_owner creator_group e)
          ∙ alone (waiting_copy e) e (waits_alike e goes))
      | inr one ↦ rw (so, goes, one) (alone (whole_copy e) e (whole_passes e goes))
    ]
    | inr isnt ↦ elim (cases_Bool (object_inherit e)) [
      | inl so ↦ rw (isnt, so, goes) (alone (waiting_copy e) e (waits_alike e goes))
      | inr none ↦ rw (isnt, none) (sym (unmarked_stays g kind creator_owner creator_group e none isnt))
    ]
  ]

  below_all : (es : List Ace) → stops_somewhere es ≡ false → inherited_entries g kind (inherited_entries g Container es) ≡ inherited_entries g kind es
  below_all [] goes = refl
  below_all (e ∷ es) goes =
      let each = or_parts _ _ goes in
      flat_map-append h (pass_on g Container creator_owner creator_group e) (inherited_entries g Container es)
      ∙ ap₂ (λ xs ys. xs ++ ys) (below_one e each.0) (below_all es each.1)

pub below_is_as_in_it : BelowIsAsInIt
below_is_as_in_it g es goes = (below_all g Object es goes, below_all g Container es goes)
