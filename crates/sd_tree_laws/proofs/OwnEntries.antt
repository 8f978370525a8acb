-- The entries that a node has of its own, in the tree of a lawful journal: explicit, and in order.
use Rattle.sd_tree_laws.proofs.Cited.{Ace, AclTooLarge, AddContainer, AddObject, Bool, Edit, EveryListIsCanonical, IsLawful, List, MappingValue, Move, Names, NodeDacl, NodeRow, None, Null, Opening, Option, OwnHasNoId, PlainTree, ProtectKeeping, Remove, SetDacl, SetGroup, SetOwner, Some, WithoutIdIsOwn, [], ap, arith, changed, cond, dacl_at, dacl_at_here, dacl_here, dacl_over, dacl_under, deny_behind_allow, early_refusal, early_tests, edited, entry_there, eq_by_cmp, explicit_entries, false, filter, find, get_or, handed_on, has_large_dacl, holds_of_lawful, inl, inr, is_canonical, is_explicit, is_inherited, keeping, length, length-map, list_any, list_tests, moved, moved_entry, names_cmp, none_fits, not, not_refused, opened, option_map, own_entries, refl, replay, root_refusal, root_row, row_at, row_at-changed_other, row_at-changed_same, row_at-empty, row_at-insert_other, row_at-insert_same, row_at-moved, row_at-remove_other, row_at-remove_same, same_or_other, subst, suc, sym, true, zero, ℕ, ◌++◌, ◌<◌, ◌∙◌, ◌∷◌, ◌≡◌}
use Rattle.std.proofs.Common.{bit_or, map as each}
use Rattle.std.proofs.lemmas.Bool.{or_from, or_right}
use Rattle.sd_sid.proofs.Masks.{holds-or}
use Rattle.sd_sid.specs.Mask.{holds}
use Rattle.std.specs.FinMap as map
use Rattle.std.proofs.Math.ListN.{get_or-map as get_or-mapped}
use Rattle.sd_edit.specs.declared.node.NodeDacl.TheVariants.{List as Entries, Stored}
use Rattle.sd_edit.specs.Inheritance.{inherited_entry, kept_or_handed, still_offers}
use Rattle.sd_tree_laws.proofs.Ordered.{canonical_parts, explicit_front, ordered_canonical, kept_explicit}
use Rattle.sd_tree_laws.proofs.Copies.{inherited_has_id}

pub record IsSound (dacl : NodeDacl) : Type 0 where
  pub explicit : list_any is_inherited (own_entries dacl) ≡ false
  pub ordered : deny_behind_allow (own_entries dacl) ≡ false

-- each node's own entries are explicit and in order
abbrev pub AllSound : PlainTree → Type 0
AllSound t = (path : Names) (row : NodeRow) → row_at t path ≡ Some row → IsSound row.dacl

inside : {X : Type 0} (x y : X) → Some x ≡ Some y → x ≡ y
inside x y e = cc

sound_inserted : (t : PlainTree) (path : Names) (row : NodeRow) → IsSound row.dacl → AllSound t → AllSound (map.insert t path row)
sound_inserted t path row sound before q r e = elim (same_or_other q path) [
  | inl same ↦
      let is : Some row ≡ Some r = sym (ap (row_at (map.insert t path row)) same ∙ row_at-insert_same t path row) ∙ e in
      rw (sym (inside row r is)) sound
  | inr other ↦ before q r (sym (row_at-insert_other t path q row other) ∙ e)
]

sound_removed : (t : PlainTree) (path : Names) → AllSound t → AllSound (map.remove t path)
sound_removed t path before q r e = elim (same_or_other q path) [
  | inl same ↦
      let gone : None ≡ Some r = sym (ap (row_at (map.remove t path)) same ∙ row_at-remove_same t path) ∙ e in
      absurd cc
  | inr other ↦ before q r (sym (row_at-remove_other t path q other) ∙ e)
]

sound_where : (change : NodeRow → NodeRow) (r : NodeRow) (o : Option NodeRow) → ((row : NodeRow) → o ≡ Some row → IsSound (change row).dacl) → option_map change o ≡ Some r → IsSound r.dacl
sound_where change r None sound e = absurd cc
sound_where change r (Some row) sound e = rw (sym (inside (change row) r e)) (sound row refl)

sound_changed : (t : PlainTree) (path : Names) (change : NodeRow → NodeRow) → ((row : NodeRow) → row_at t path ≡ Some row → IsSound (change row).dacl)
    → AllSound t → AllSound (changed t path change)
sound_changed t path change sound before q r e = elim (same_or_other q path) [
  | inl same ↦ sound_where change r (row_at t path) sound (sym (ap (row_at (changed t path change)) same ∙ row_at-changed_same t path change) ∙ e)
  | inr other ↦ before q r (sym (row_at-changed_other t path q change other) ∙ e)
]

sound_keeping : (dacl : Option (List Ace)) (row : NodeRow) → IsSound row.dacl → IsSound (keeping dacl row).dacl
sound_keeping None row sound = sound
sound_keeping (Some entries) row sound = record { explicit = kept_explicit entries; ordered = ordered_canonical (explicit_entries entries) }

-- what is found stands at a place
found_place : (p : Names) (es : List (Names × NodeRow)) (r : NodeRow) → find names_cmp p es ≡ Some r → (k : ℕ) × (k < length es) × ((d : Names × NodeRow) → (get_or es k d).1 ≡ r)
found_place p [] r e = absurd cc
found_place p (x ∷ es) r e = by_key (eq_by_cmp names_cmp p x.0) e (found_place p es r)
  where
    by_key : (b : Bool) → cond b (Some x.1) (find names_cmp p es) ≡ Some r
        → (find names_cmp p es ≡ Some r → (k : ℕ) × (k < length es) × ((d : Names × NodeRow) → (get_or es k d).1 ≡ r))
        → (k : ℕ) × (k < length (x ∷ es)) × ((d : Names × NodeRow) → (get_or (x ∷ es) k d).1 ≡ r)
    by_key true h later = (zero, omega arith, λ d. inside x.1 r h)
    by_key false h later = let found = later h in (suc found.0, omega (arith, found.1), found.2)

sound_moved : (t : PlainTree) (source target : Names) → AllSound t → AllSound (moved t source target)
sound_moved t source target before q r e =
    let es = map.entries t in
    let found = found_place q (each (moved_entry source target) es) r (sym (row_at-moved t source target q) ∙ e) in
    let k = found.0 in
    let d : Names × NodeRow = ([], r) in
    let in-k : k < length es = omega (arith, found.1, length-map es (moved_entry source target)) in
    let same : (get_or es k d).1 ≡ r = sym (ap (λ (x : Names × NodeRow). x.1) (get_or-mapped (moved_entry source target) es k d)) ∙ found.2 (moved_entry source target d) in
    let P : NodeRow → Type 0 = λ row. IsSound row.dacl in
    subst P same (before (get_or es k d).0 (get_or es k d).1 (entry_there t k d in-k))

sound_edited : (g : MappingValue) (t : PlainTree) (e : Edit) → early_refusal t e ≡ None → AllSound t → AllSound (edited g t e)
sound_edited g t (AddContainer path owner group dacl) fits before =
    let tests = none_fits (early_tests t (AddContainer path owner group dacl)) fits in
    sound_inserted t path _ (record { explicit = tests.1.1.1.0; ordered = tests.1.1.1.1.0 }) before
sound_edited g t (AddObject path owner group dacl) fits before =
    let tests = none_fits (early_tests t (AddObject path owner group dacl)) fits in
    sound_inserted t path _ (record { explicit = tests.1.1.1.0; ordered = tests.1.1.1.1.0 }) before
sound_edited g t (SetOwner path owner) fits before = sound_changed t path _ (λ row there. before path row there) before
sound_edited g t (SetGroup path group) fits before = sound_changed t path _ (λ row there. before path row there) before
sound_edited g t (SetDacl path dacl) fits before =
    let tests = none_fits (early_tests t (SetDacl path dacl)) fits in
    sound_changed t path _ (λ row there. record { explicit = tests.1.0; ordered = tests.1.1.0 }) before
sound_edited g t (Remove path) fits before = sound_removed t path before
sound_edited g t (ProtectKeeping path) fits before =
    sound_changed t path (keeping (dacl_at g t path)) (λ row there. sound_keeping (dacl_at g t path) row (before path row there)) before
sound_edited g t (Move source target) fits before = sound_moved t source target before

sound_opened : (o : Opening) → root_refusal o ≡ None → AllSound (opened o)
sound_opened o fits =
    let tests = none_fits (list_tests o.root.dacl ++ (has_large_dacl o.mapping (opened o), AclTooLarge) ∷ []) fits in
    sound_inserted map.empty [] (root_row o.root) (record { explicit = tests.0; ordered = tests.1.0 })
    (λ path row e. let none = row_at-empty path in absurd cc)

pub sound_replay : (o : Opening) (journal : List Edit) → root_refusal o ≡ None → IsLawful o journal → AllSound (replay o journal)
sound_replay o journal fits =
    holds_of_lawful o AllSound (sound_opened o fits)
    (λ t count e before accepted. sound_edited o.mapping t e (not_refused o.limits o.mapping t count e accepted).0 before) journal

-- ---- the laws

pub own_has_no_id : OwnHasNoId
own_has_no_id o journal path row fits lawful there = (sound_replay o journal fits lawful path row there).explicit

-- what a stored node keeps, or else what is handed on to it, has the flag ID
flag_set : (f : ℕ) → holds (bit_or f 0x10) 4 ≡ true
flag_set f = holds-or f 0x10 4 ∙ or_right (holds f 4) (holds 0x10 4) refl

kept_has_id : (inherited : List Ace) → list_any is_explicit (each inherited_entry inherited) ≡ false
kept_has_id [] = refl
kept_has_id (e ∷ es) = or_from (is_explicit (inherited_entry e)) (list_any is_explicit (each inherited_entry es)) (ap not (flag_set e.flags.0)) (kept_has_id es)

behind_has_id : (keeps : Bool) (inherited handed : List Ace) → list_any is_explicit handed ≡ false → list_any is_explicit (kept_or_handed keeps inherited handed) ≡ false
behind_has_id true inherited handed h = kept_has_id inherited
behind_has_id false inherited handed h = h

canonical_under : (g : MappingValue) (row : NodeRow) (dacl : NodeDacl) (above : Option (List Ace)) (entries : List Ace) → IsSound dacl
    → dacl_under g row dacl above ≡ Some entries → is_canonical entries ≡ true
canonical_under g row Null above entries sound e = absurd cc
canonical_under g row (Entries true own) above entries sound e =
    ap is_canonical (sym (inside _ _ e)) ∙ canonical_parts own [] sound.explicit sound.ordered refl
canonical_under g row (Entries false own) above entries sound e =
    ap is_canonical (sym (inside _ _ e)) ∙ canonical_parts own (handed_on g row above) sound.explicit sound.ordered (inherited_has_id g row above)
canonical_under g row (Stored own inherited offer) above entries sound e =
    ap is_canonical (sym (inside _ _ e))
    ∙ canonical_parts own _ sound.explicit sound.ordered (behind_has_id (still_offers g row.kind above offer) inherited (handed_on g row above) (inherited_has_id g row above))

canonical_here : (g : MappingValue) (o : Option NodeRow) (above : Option (List Ace)) (entries : List Ace) → ((row : NodeRow) → o ≡ Some row → IsSound row.dacl)
    → dacl_here g o above ≡ Some entries → is_canonical entries ≡ true
canonical_here g None above entries sound e = absurd cc
canonical_here g (Some row) above entries sound e = canonical_under g row row.dacl above entries (sound row refl) e

explicit_under : (g : MappingValue) (row : NodeRow) (dacl : NodeDacl) (above : Option (List Ace)) (entries : List Ace) → IsSound dacl
    → dacl_under g row dacl above ≡ Some entries → filter is_explicit entries ≡ own_entries dacl
explicit_under g row Null above entries sound e = absurd cc
explicit_under g row (Entries true own) above entries sound e =
    ap (filter is_explicit) (sym (inside _ _ e)) ∙ explicit_front own [] sound.explicit refl
explicit_under g row (Entries false own) above entries sound e =
    ap (filter is_explicit) (sym (inside _ _ e)) ∙ explicit_front own (handed_on g row above) sound.explicit (inherited_has_id g row above)
explicit_under g row (Stored own inherited offer) above entries sound e =
    ap (filter is_explicit) (sym (inside _ _ e))
    ∙ explicit_front own _ sound.explicit (behind_has_id (still_offers g row.kind above offer) inherited (handed_on g row above) (inherited_has_id g row above))

pub without_id_is_own : WithoutIdIsOwn
without_id_is_own o journal path row entries fits lawful there e =
    let t = replay o journal in
    explicit_under o.mapping row row.dacl (dacl_over o.mapping t path) entries (sound_replay o journal fits lawful path row there)
    (sym (dacl_at_here o.mapping t path ∙ ap (λ r. dacl_here o.mapping r (dacl_over o.mapping t path)) there) ∙ e)

pub every_list_is_canonical : EveryListIsCanonical
every_list_is_canonical o journal path entries fits lawful e =
    let t = replay o journal in
    canonical_here o.mapping (row_at t path) (dacl_over o.mapping t path) entries (sound_replay o journal fits lawful path)
    (sym (dacl_at_here o.mapping t path) ∙ e)
