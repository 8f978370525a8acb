-- What a valid journal leaves within the limits: the names of a path, the nodes of a tree, the bytes of a list; and each
-- of its edits adds at most one node.
use Rattle.sd_tree_laws.proofs.Cited.{AclTooLarge, AddContainer, AddObject, Bool, Edit, IsLawful, LimitsValue, List, MappingValue, Move, Names, NodeRow, None, Opening, Option, PlainTree, ProtectKeeping, Remove, SetDacl, SetGroup, SetOwner, Some, [], ap, arith, cases_Bool, changed, changed_where, cond, dacl_at, edited, edited_by, entry_there, eq_by_cmp, false, find, get_or, goes_too_deep, has_large_dacl, holds_of_lawful, inl, inr, is_some, is_within, keeping, late_refusal, late_tests, leb-false, len-empty, len-entries, len-insert, len-remove, length, length-map, list_any, list_tests, ltb-false, map, moved_entry, moved_path, moved_path-outside, names_cmp, names_cmp_total, nat_le, nat_lt, none_fits, not_refused, one_path, opened, option_map, refl, root_refusal, root_row, row_at, row_at-changed_other, row_at-changed_same, row_at-empty, row_at-insert_other, row_at-moved, row_at-remove_other, row_at-remove_same, same_or_other, suc, sym, true, zero, ℕ, ◌&&◌, ◌++◌, ◌+◌, ◌-◌, ◌<◌, ◌||◌, ◌∙◌, ◌∷◌, ◌≡◌, ◌≤◌}
use Rattle.std.specs.FinMap as finite
use Rattle.sd_edit.specs.Edits.{moved}
use Rattle.sd_edit.specs.Journal.{replay}
use Rattle.sd_tree_laws.proofs.Fronts.{Entry, few_entries}

-- ---- the names of a path

abbrev pub AllShallow : PlainTree → Type 0
AllShallow t = (path : Names) (row : NodeRow) → row_at t path ≡ Some row → length path ≤ 64

not_deep : (n : ℕ) → nat_lt 64 n ≡ false → n ≤ 64
not_deep n h = ltb-false 64 n h

shallow_inserted : (t : PlainTree) (path : Names) (row : NodeRow) → length path ≤ 64 → AllShallow t → AllShallow (finite.insert t path row)
shallow_inserted t path row low before q r e = elim (same_or_other q path) [
  | inl same ↦ let size = ap (λ (p : Names). length p) same in omega (arith, size, low)
  | inr other ↦ before q r (sym (row_at-insert_other t path q row other) ∙ e)
]

shallow_removed : (t : PlainTree) (path : Names) → AllShallow t → AllShallow (finite.remove t path)
shallow_removed t path before q r e = elim (same_or_other q path) [
  | inl same ↦
      let gone : None ≡ Some r = sym (ap (row_at (finite.remove t path)) same ∙ row_at-remove_same t path) ∙ e in
      absurd cc
  | inr other ↦ before q r (sym (row_at-remove_other t path q other) ∙ e)
]

was_some : (change : NodeRow → NodeRow) (o : Option NodeRow) (r : NodeRow) → option_map change o ≡ Some r → (row : NodeRow) × (o ≡ Some row)
was_some change None r e = absurd cc
was_some change (Some row) r e = (row, refl)

shallow_changed : (t : PlainTree) (path : Names) (change : NodeRow → NodeRow) → AllShallow t → AllShallow (changed t path change)
shallow_changed t path change before q r e = elim (same_or_other q path) [
  | inl same ↦
      let was = was_some change (row_at t path) r (sym (ap (row_at (changed t path change)) same ∙ row_at-changed_same t path change) ∙ e) in
      before q was.0 (ap (row_at t) same ∙ was.1)
  | inr other ↦ before q r (sym (row_at-changed_other t path q change other) ∙ e)
]

pub or_parts : (a b : Bool) → (a || b) ≡ false → (a ≡ false) × (b ≡ false)
or_parts true b h = absurd cc
or_parts false b h = (refl, h)

moved_low : (source target path : Names) → goes_too_deep source target path ≡ false → length path ≤ 64 → length (moved_path source target path) ≤ 64
moved_low source target path test low = elim (cases_Bool (is_within source path)) [
  | inl inside ↦ not_deep _ (sym (ap (λ b. b && nat_lt 64 (length (moved_path source target path))) inside) ∙ test)
  | inr outside ↦ let size = ap (λ (p : Names). length p) (moved_path-outside source target path outside) in omega (arith, size, low)
]

found_low : (source target q : Names) (r : NodeRow) (es : List Entry) → list_any (goes_too_deep source target) (map (λ e. e.0) es) ≡ false
    → ((k : ℕ) (d : Entry) → k < length es → length (get_or es k d).0 ≤ 64)
    → find names_cmp q (map (moved_entry source target) es) ≡ Some r → length q ≤ 64
found_low source target q r [] tests low e = absurd cc
found_low source target q r (x ∷ es) tests low e =
    by_key (eq_by_cmp names_cmp q to) refl e (found_low source target q r es (or_parts _ _ tests).1 (λ k d lt. low (suc k) d (omega arith)))
  where
    to : Names
    to = moved_path source target x.0

    by_key : (b : Bool) → eq_by_cmp names_cmp q to ≡ b → cond b (Some x.1) (find names_cmp q (map (moved_entry source target) es)) ≡ Some r
        → (find names_cmp q (map (moved_entry source target) es) ≡ Some r → length q ≤ 64) → length q ≤ 64
    by_key true is found later =
        let size = ap (λ (p : Names). length p) (one_path q to is) in
        let fits = moved_low source target x.0 (or_parts _ _ tests).0 (low zero x (omega arith)) in
        omega (arith, size, fits)
    by_key false is found later = later found

shallow_moved : (t : PlainTree) (source target : Names) → list_any (goes_too_deep source target) (finite.keys t) ≡ false → AllShallow t → AllShallow (moved t source target)
shallow_moved t source target tests before q r e =
    found_low source target q r (finite.entries t) tests (λ k d lt. before (get_or (finite.entries t) k d).0 (get_or (finite.entries t) k d).1 (entry_there t k d lt))
    (sym (row_at-moved t source target q) ∙ e)

shallow_edited : (limits : LimitsValue) (g : MappingValue) (t : PlainTree) (count : ℕ) (e : Edit) → late_refusal limits g t count e ≡ None → AllShallow t → AllShallow (edited g t e)
shallow_edited limits g t count (AddContainer path owner group dacl) fits before =
    let tests = none_fits (late_tests limits g t count (AddContainer path owner group dacl)) fits in
    shallow_inserted t path _ (not_deep _ tests.1.0) before
shallow_edited limits g t count (AddObject path owner group dacl) fits before =
    let tests = none_fits (late_tests limits g t count (AddObject path owner group dacl)) fits in
    shallow_inserted t path _ (not_deep _ tests.1.0) before
shallow_edited limits g t count (SetOwner path owner) fits before = shallow_changed t path _ before
shallow_edited limits g t count (SetGroup path group) fits before = shallow_changed t path _ before
shallow_edited limits g t count (SetDacl path dacl) fits before = shallow_changed t path _ before
shallow_edited limits g t count (Remove path) fits before = shallow_removed t path before
shallow_edited limits g t count (ProtectKeeping path) fits before = shallow_changed t path (keeping (dacl_at g t path)) before
shallow_edited limits g t count (Move source target) fits before =
    let tests = none_fits (late_tests limits g t count (Move source target)) fits in
    shallow_moved t source target tests.1.0 before

shallow_opened : (o : Opening) → AllShallow (opened o)
shallow_opened o = shallow_inserted finite.empty [] (root_row o.root) (omega arith) (λ path row e. let none = row_at-empty path in absurd cc)

pub shallow_replay : (o : Opening) (journal : List Edit) → IsLawful o journal → AllShallow (replay o journal)
shallow_replay o journal =
    holds_of_lawful o AllShallow (shallow_opened o)
    (λ t count e before accepted. shallow_edited o.limits o.mapping t count e (not_refused o.limits o.mapping t count e accepted).1 before) journal

-- ---- the nodes of a tree

module _ (limits : LimitsValue) where
  -- without the root, which is there whatever the limits are
  abbrev pub IsFew : PlainTree → Type 0
  IsFew t = finite.len t - 1 ≤ limits.nodes - 1

  not_full : (n : ℕ) → nat_le limits.nodes n ≡ false → n ≤ limits.nodes - 1
  not_full n h = let less = leb-false limits.nodes n h in omega (arith, less)

  few_more : (b : Bool) (m : ℕ) → m ≤ limits.nodes - 1 → cond b m (m + 1) - 1 ≤ limits.nodes - 1
  few_more true m h = omega (arith, h)
  few_more false m h = omega (arith, h)

  few_inserted : (t : PlainTree) (path : Names) (row : NodeRow) → finite.len t ≤ limits.nodes - 1 → IsFew (finite.insert t path row)
  few_inserted t path row le = rw (len-insert names_cmp_total t path row) (few_more (finite.contains_key t path) (finite.len t) le)

  few_less : (b : Bool) (m : ℕ) → m - 1 ≤ limits.nodes - 1 → cond b (m - 1) m - 1 ≤ limits.nodes - 1
  few_less true m h = omega (arith, h)
  few_less false m h = h

  few_removed : (t : PlainTree) (path : Names) → IsFew t → IsFew (finite.remove t path)
  few_removed t path few = rw (len-remove names_cmp_total t path) (few_less (finite.contains_key t path) (finite.len t) few)

  few_where : (t : PlainTree) (path : Names) (change : NodeRow → NodeRow) (o : Option NodeRow) → row_at t path ≡ o → IsFew t → IsFew (changed_where t path change o)
  few_where t path change None is few = few
  few_where t path change (Some row) is few =
      let size : finite.len (finite.insert t path (change row)) ≡ finite.len t = len-insert names_cmp_total t path (change row) ∙ ap (λ o. cond (is_some o) (finite.len t) (finite.len t + 1)) is in
      omega (arith, size, few)

  few_changed : (t : PlainTree) (path : Names) (change : NodeRow → NodeRow) → IsFew t → IsFew (changed t path change)
  few_changed t path change few = few_where t path change (row_at t path) refl few

  few_moved : (t : PlainTree) (source target : Names) → IsFew t → IsFew (moved t source target)
  unfolding moved
  few_moved t source target few =
      let es = finite.entries t in
      let most = few_entries (map (moved_entry source target) es) in
      let size = length-map es (moved_entry source target) in
      let was = len-entries t in
      omega (arith, most, size, was, few)

  few_edited : (g : MappingValue) (t : PlainTree) (count : ℕ) (e : Edit) → late_refusal limits g t count e ≡ None → IsFew t → IsFew (edited g t e)
  few_edited g t count (AddContainer path owner group dacl) fits before =
      let tests = none_fits (late_tests limits g t count (AddContainer path owner group dacl)) fits in
      few_inserted t path _ (not_full _ tests.1.1.0)
  few_edited g t count (AddObject path owner group dacl) fits before =
      let tests = none_fits (late_tests limits g t count (AddObject path owner group dacl)) fits in
      few_inserted t path _ (not_full _ tests.1.1.0)
  few_edited g t count (SetOwner path owner) fits before = few_changed t path _ before
  few_edited g t count (SetGroup path group) fits before = few_changed t path _ before
  few_edited g t count (SetDacl path dacl) fits before = few_changed t path _ before
  few_edited g t count (Remove path) fits before = few_removed t path before
  few_edited g t count (ProtectKeeping path) fits before = few_changed t path (keeping (dacl_at g t path)) before
  few_edited g t count (Move source target) fits before = few_moved t source target before

  few_opened : (o : Opening) → IsFew (opened o)
  few_opened o = few_inserted finite.empty [] (root_row o.root) (let none = len-empty names_cmp NodeRow in omega (arith, none))

pub few_replay : (o : Opening) (journal : List Edit) → IsLawful o journal → IsFew o.limits (replay o journal)
few_replay o journal =
    holds_of_lawful o (IsFew o.limits) (few_opened o.limits o)
    (λ t count e before accepted. few_edited o.limits o.mapping t count e (not_refused o.limits o.mapping t count e accepted).1 before) journal

-- ---- the edits of a journal

one_more : (b : Bool) (n : ℕ) → cond b n (n + 1) ≤ n + 1
one_more true n = omega arith
one_more false n = omega arith

no_more : (b : Bool) (n : ℕ) → cond b (n - 1) n ≤ n + 1
no_more true n = omega arith
no_more false n = omega arith

grown : (t : PlainTree) (path : Names) (row : NodeRow) → finite.len (finite.insert t path row) ≤ finite.len t + 1
grown t path row = rw (len-insert names_cmp_total t path row) (one_more (finite.contains_key t path) (finite.len t))

stays : (t : PlainTree) (path : Names) (change : NodeRow → NodeRow) (row : Option NodeRow) → finite.len (changed_where t path change row) ≤ finite.len t + 1
stays t path change None = omega arith
stays t path change (Some row) = grown t path (change row)

moved_fits : (t : PlainTree) (source target : Names) → finite.len (moved t source target) ≤ finite.len t + 1
unfolding moved
moved_fits t source target =
    let made = few_entries (map (moved_entry source target) (finite.entries t)) in
    let same = length-map (finite.entries t) (moved_entry source target) in
    let all = len-entries t in
    omega arith

-- an edit adds at most one node
edit_adds_one : (g : MappingValue) (t : PlainTree) (edit : Edit) → finite.len (edited g t edit) ≤ finite.len t + 1
edit_adds_one g t (AddContainer path owner group dacl) = grown t path _
edit_adds_one g t (AddObject path owner group dacl) = grown t path _
edit_adds_one g t (SetOwner path owner) = stays t path _ (row_at t path)
edit_adds_one g t (SetGroup path group) = stays t path _ (row_at t path)
edit_adds_one g t (SetDacl path dacl) = stays t path _ (row_at t path)
edit_adds_one g t (Remove path) = rw (len-remove names_cmp_total t path) (no_more (finite.contains_key t path) (finite.len t))
edit_adds_one g t (ProtectKeeping path) = stays t path (keeping (dacl_at g t path)) (row_at t path)
edit_adds_one g t (Move source target) = moved_fits t source target

edits_add : (g : MappingValue) (t : PlainTree) (edits : List Edit) → finite.len (edited_by g t edits) ≤ finite.len t + length edits
edits_add g t [] = omega arith
edits_add g t (edit ∷ edits) =
    let one = edit_adds_one g t edit in
    let rest = edits_add g (edited g t edit) edits in
    omega arith

pub journal_adds : (opening : Opening) (journal : List Edit) → finite.len (replay opening journal) ≤ length journal + 1
unfolding replay
journal_adds opening journal =
    let all = edits_add opening.mapping (opened opening) journal in
    let root = grown finite.empty [] (root_row opening.root) in
    let none = len-empty names_cmp NodeRow in
    omega arith

-- ---- the bytes of a list

large_edited : (limits : LimitsValue) (g : MappingValue) (t : PlainTree) (count : ℕ) (e : Edit) → late_refusal limits g t count e ≡ None → has_large_dacl g (edited g t e) ≡ false
large_edited limits g t count e fits = (none_fits (late_tests limits g t count e) fits).0

pub small_replay : (o : Opening) (journal : List Edit) → root_refusal o ≡ None → IsLawful o journal → has_large_dacl o.mapping (replay o journal) ≡ false
small_replay o journal fits =
    let tests = none_fits (list_tests o.root.dacl ++ (has_large_dacl o.mapping (opened o), AclTooLarge) ∷ []) fits in
    holds_of_lawful o (λ t. has_large_dacl o.mapping t ≡ false) tests.1.1.0
    (λ t count e before accepted. large_edited o.limits o.mapping t count e (not_refused o.limits o.mapping t count e accepted).1) journal
