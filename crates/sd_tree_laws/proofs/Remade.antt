-- The tree of a valid journal is made again by its root and one addition for each other node, in the order of their
-- paths: each is accepted at its place.
use Rattle.sd_tree_laws.proofs.Cited.{AclTooLarge, AllByRecursion, Bool, Container, Edit, EditRefusal, IsClosed, IsLawful, JournalFull, LimitsValue, List, MappingValue, Names, NodeKind, NodeRow, None, Object, Opening, Option, PlainTree, Some, T, [], addition_of, addition_tests, ap, append-nil, append_assoc, arith, by_last, closed_replay, cond, dacl_at, dacl_at_alike, dacl_size, early_tests, edited, entries_sorted, entry_there, eq_by_cmp, false, find, first_fit, from_entries_push, get-entries, get-from_entries, get_or, get_or-append_seam, has_large_dacl, inl, inr, is_object, is_object_kind, is_root, is_some, is_sorted, is_within, lawful_none, lawful_push, lawful_short, le-ltb, len-entries, length, length-append, length-map, list_any, list_tests, lt-leb, map, map-append, names_cmp, names_cmp_antisymmetric, names_cmp_total, nat_le, nat_lt, not, one_path, opened, opening_within, option_map, refl, refusal, refusal_by_parts, refusal_in, replay, replay-none, replay-push, room_tests, root_of, root_refusal, row_at, same_map, same_or_other, subst, suc, sym, true, up, up_before, within_before, within_itself, zero, ℕ, ◌&&◌, ◌++◌, ◌+◌, ◌<◌, ◌||◌, ◌∙◌, ◌∷◌, ◌≡◌, ◌≤◌}
use Rattle.std.specs.FinMap as finite
use Rattle.sd_tree_laws.proofs.OwnEntries.{AllSound, sound_replay}
use Rattle.sd_tree_laws.proofs.Fronts.{Entry, below_trans, below_next, find_below, find_front, found_below, next_free, before_next, few_entries}
use Rattle.sd_tree_laws.proofs.Bounded.{AllShallow, IsFew, or_parts, shallow_replay, few_replay, small_replay, journal_adds}

-- the edit that adds a node
abbrev pub addition : Entry → Edit
addition entry = addition_of entry.1.kind entry.0 entry.1

-- an opening that is accepted, and edits that are accepted in turn, which make this tree
pub record Makes (opening : Opening) (edits : List Edit) (t : PlainTree) : Type 0 where
  pub accepted : root_refusal opening ≡ None
  pub lawful : IsLawful opening edits
  pub made : replay opening edits ≡ t

-- what holds of the tree of each lawful journal
pub record IsWithinLimits (limits : LimitsValue) (g : MappingValue) (t : PlainTree) : Type 0 where
  pub closed : IsClosed t
  pub sound : AllSound t
  pub small : has_large_dacl g t ≡ false
  pub shallow : AllShallow t
  pub few : IsFew limits t
  pub short : finite.len t ≤ limits.edits + 1

within_limits : (o : Opening) (journal : List Edit) → root_refusal o ≡ None → IsLawful o journal → IsWithinLimits o.limits o.mapping (replay o journal)
within_limits o journal fits lawful = record {
  closed = closed_replay o journal lawful;
  sound = sound_replay o journal fits lawful;
  small = small_replay o journal fits lawful;
  shallow = shallow_replay o journal lawful;
  few = few_replay o journal lawful;
  short = let most = journal_adds o journal in let fits = lawful_short o journal lawful in omega (arith, most, fits);
}

-- ---- the tree of a front of the entries

abbrev pub front : List Entry → PlainTree
front xs = finite.from_entries xs

sorted_parts : (t : PlainTree) (xs ys : List Entry) → xs ++ ys ≡ finite.entries t → T (is_sorted names_cmp (xs ++ ys))
sorted_parts t xs ys parts = let P : List Entry → Type 0 = λ es. T (is_sorted names_cmp es) in subst P (sym parts) (entries_sorted t)

same_row : (t : PlainTree) (xs ys : List Entry) (q : Names) → xs ++ ys ≡ finite.entries t → find names_cmp q ys ≡ None → row_at (front xs) q ≡ row_at t q
same_row t xs ys q parts none =
    get-from_entries names_cmp_total xs q ∙ sym (find_front q xs ys none) ∙ ap (find names_cmp q) parts ∙ sym (get-entries t q)

-- on the way to a node of the front all is as in the tree
same_way : (t : PlainTree) (xs ys : List Entry) (q : Names) (r : NodeRow) → xs ++ ys ≡ finite.entries t → row_at (front xs) q ≡ Some r
    → (top : Names) → is_within top q ≡ true → row_at (front xs) top ≡ row_at t top
same_way t xs ys q r parts there top within =
    let behind = found_below q r xs ys (sorted_parts t xs ys parts) (sym (get-from_entries names_cmp_total xs q) ∙ there) in
    same_row t xs ys top parts (elim (same_or_other top q) [
      | inl same ↦ ap (λ p. find names_cmp p ys) same ∙ find_below q ys behind
      | inr other ↦ find_below top ys (below_trans top q ys (within_before top q within (λ e. other (sym e))) behind)
    ])

-- a test that no path passes fails for each that is found
found_fails : (p : Names → Bool) (q : Names) (r : NodeRow) (es : List Entry) → find names_cmp q es ≡ Some r → list_any p (map (λ e. e.0) es) ≡ false → p q ≡ false
found_fails p q r [] e none = absurd cc
found_fails p q r (x ∷ es) e none = by_key (eq_by_cmp names_cmp q x.0) refl e (λ found. found_fails p q r es found (or_parts _ _ none).1)
  where
    by_key : (b : Bool) → eq_by_cmp names_cmp q x.0 ≡ b → cond b (Some x.1) (find names_cmp q es) ≡ Some r
        → (find names_cmp q es ≡ Some r → p q ≡ false) → p q ≡ false
    by_key true is found later = ap p (one_path q x.0 is) ∙ (or_parts _ _ none).0
    by_key false is found later = later found

none_of : (p : Names → Bool) (es : List Entry) → ((k : ℕ) (d : Entry) → k < length es → p (get_or es k d).0 ≡ false) → list_any p (map (λ e. e.0) es) ≡ false
none_of p [] h = refl
none_of p (x ∷ es) h = ap (λ b. b || list_any p (map (λ (e : Entry). e.0) es)) (h zero x (omega arith)) ∙ none_of p es (λ k d lt. h (suc k) d (omega arith))

-- its lists are those of the tree, so none is too large
small_front : (g : MappingValue) (t : PlainTree) (xs ys : List Entry) → has_large_dacl g t ≡ false → xs ++ ys ≡ finite.entries t → has_large_dacl g (front xs) ≡ false
small_front g t xs ys small parts = none_of (test (front xs)) (finite.entries (front xs)) each
  where
    test : PlainTree → Names → Bool
    test u path = nat_lt 65535 (dacl_size (dacl_at g u path))

    each : (k : ℕ) (d : Entry) → k < length (finite.entries (front xs)) → test (front xs) (get_or (finite.entries (front xs)) k d).0 ≡ false
    each k d lt =
        let q = (get_or (finite.entries (front xs)) k d).0 in
        let r = (get_or (finite.entries (front xs)) k d).1 in
        let there = entry_there (front xs) k d lt in
        let way = same_way t xs ys q r parts there in
        let found : find names_cmp q (finite.entries t) ≡ Some r = sym (get-entries t q) ∙ sym (way q (within_itself q)) ∙ there in
        ap (λ dacl. nat_lt 65535 (dacl_size dacl)) (dacl_at_alike g (front xs) t q way) ∙ found_fails (test t) q r (finite.entries t) found small

-- ---- one more node

all_pass : (tests : List (Bool × EditRefusal)) → AllByRecursion (λ test. test.0 ≡ false) tests → first_fit tests ≡ None
all_pass [] h = refl
all_pass (test ∷ tests) h = ap (λ b. cond b (Some test.1) (first_fit tests)) h.0 ∙ all_pass tests h.1

edited_addition : (g : MappingValue) (t : PlainTree) (path : Names) (row : NodeRow) (kind : NodeKind) → row.kind ≡ kind → edited g t (addition_of kind path row) ≡ finite.insert t path row
edited_addition g t path row Container is = λ i. finite.insert t path (record { kind = sym is i; owner = row.owner; group = row.group; dacl = row.dacl })
edited_addition g t path row Object is = λ i. finite.insert t path (record { kind = sym is i; owner = row.owner; group = row.group; dacl = row.dacl })

early_addition : (t : PlainTree) (path : Names) (row : NodeRow) (kind : NodeKind) → first_fit (addition_tests t path row.dacl) ≡ None → first_fit (early_tests t (addition_of kind path row)) ≡ None
early_addition t path row Container h = h
early_addition t path row Object h = h

limits_addition : (limits : LimitsValue) (t : PlainTree) (n : ℕ) (path : Names) (row : NodeRow) (kind : NodeKind) → length path ≤ 64 → finite.len t < limits.nodes → n < limits.edits
    → None ≡ first_fit (room_tests limits t (addition_of kind path row) ++ (nat_le limits.edits n, JournalFull) ∷ [])
limits_addition limits t n path row Container low few short = sym (all_pass (room_tests limits t (addition_of Container path row) ++ (nat_le limits.edits n, JournalFull) ∷ []) (le-ltb 64 _ low, (lt-leb limits.nodes _ few, (lt-leb limits.edits n short, tt))))
limits_addition limits t n path row Object low few short = sym (all_pass (room_tests limits t (addition_of Object path row) ++ (nat_le limits.edits n, JournalFull) ∷ []) (le-ltb 64 _ low, (lt-leb limits.nodes _ few, (lt-leb limits.edits n short, tt))))

pub a_container : (o : Option NodeRow) → option_map (λ (r : NodeRow). r.kind) o ≡ Some Container → (row : NodeRow) × (o ≡ Some row) × (row.kind ≡ Container)
a_container None e = absurd cc
a_container (Some row) e = (row, refl, cc)

-- an entry stands in the tree
here : (t : PlainTree) (xs : List Entry) (e : Entry) (ys : List Entry) → xs ++ e ∷ ys ≡ finite.entries t → row_at t e.0 ≡ Some e.1
here t xs e ys parts =
    let es = finite.entries t in
    let longer = length-append xs (e ∷ ys) in
    let count = ap (λ (zs : List Entry). length zs) parts in
    let at : get_or es (length xs) e ≡ e = ap (λ zs. get_or zs (length xs) e) (sym parts) ∙ get_or-append_seam xs e ys e in
    let P : Entry → Type 0 = λ x. row_at t x.0 ≡ Some x.1 in
    subst P at (entry_there t (length xs) e (omega (arith, longer, count)))

-- the next node may be added to the tree of those before it, if the root is among these
next_accepted : (limits : LimitsValue) (g : MappingValue) (t : PlainTree) → IsWithinLimits limits g t → (root : NodeRow) (xs : List Entry) (e : Entry) (ys : List Entry) → xs ++ e ∷ ys ≡ finite.entries t
    → find names_cmp [] xs ≡ Some root → (n : ℕ) → n < limits.edits → (refusal_in limits g (front xs) n (addition e) ≡ None) × (edited g (front xs) (addition e) ≡ front (xs ++ e ∷ []))
next_accepted limits g t ok root xs e ys parts rooted n short =
    let path = e.0 in
    let row = e.1 in
    let order = sorted_parts t xs (e ∷ ys) parts in
    let u = front xs in
    let absent = next_free xs e ys order in
    let free : row_at u path ≡ None = get-from_entries names_cmp_total xs path ∙ absent in
    let below = not_root path root xs absent rooted in
    let there = here t xs e ys parts in
    let parent = same_row t xs (e ∷ ys) (up path) parts (before_next (up path) xs e ys order (up_before path below)) in
    let kind = λ (r : NodeRow). r.kind in
    let held = a_container (row_at u (up path)) (ap (option_map kind) parent ∙ ok.closed.parents path row there) in
    let sound = ok.sound path row there in
    let early = all_pass (addition_tests u path row.dacl) (
      ap (λ b. not b && not (is_some (row_at u (up path)))) below ∙ ap (λ o. not (is_some o)) held.1,
      (
        ap (λ b. not b && is_object (row_at u (up path))) below ∙ ap is_object held.1 ∙ ap is_object_kind held.2,
        (ap is_some free, (sound.explicit, (sound.ordered, tt))),
      ),
    ) in
    let whole : xs ++ e ∷ [] ++ ys ≡ finite.entries t = append_assoc xs (e ∷ []) ys ∙ parts in
    let made : edited g u (addition e) ≡ front (xs ++ e ∷ []) =
    edited_addition g u path row row.kind refl ∙ sym (from_entries_push names_cmp_total names_cmp_antisymmetric xs path row absent) in
    let large = ap (has_large_dacl g) made ∙ small_front g t (xs ++ e ∷ []) ys ok.small whole in
    let longer = length-append xs (e ∷ ys) in
    let count = ap (λ (zs : List Entry). length zs) parts in
    let most = few_entries xs in
    let size = len-entries t in
    let few : finite.len u < limits.nodes = omega (arith, longer, count, most, size, some_entry root xs rooted, ok.few) in
    (refusal_by_parts limits g u n (addition e) None (early_addition u path row row.kind early) large (limits_addition limits u n path row row.kind (ok.shallow path row there) few short), made)
  where
    not_root : (path : Names) (root : NodeRow) (xs : List Entry) → find names_cmp path xs ≡ None → find names_cmp [] xs ≡ Some root → is_root path ≡ false
    not_root [] root xs none found = absurd cc
    not_root (name ∷ path) root xs none found = refl

    some_entry : (root : NodeRow) (xs : List Entry) → find names_cmp [] xs ≡ Some root → 0 < length xs
    some_entry root [] found = absurd cc
    some_entry root (x ∷ xs) found = omega arith

-- ---- all of them

-- the entries of a tree with a root begin with it
pub first_entry : (t : PlainTree) (root : NodeRow) → row_at t [] ≡ Some root → (rest : List Entry) × (([], root) ∷ rest ≡ finite.entries t)
first_entry t root there = by_first (finite.entries t) (entries_sorted t) (sym (get-entries t []) ∙ there)
  where
    by_first : (es : List Entry) → T (is_sorted names_cmp es) → find names_cmp [] es ≡ Some root → (rest : List Entry) × (([], root) ∷ rest ≡ es)
    by_first [] order found = absurd cc
    by_first (([], row) ∷ es) order found = (es, cc)
    by_first ((name ∷ path, row) ∷ es) order found =
        let none = find_below [] es (below_trans [] (name ∷ path) es refl (below_next (name ∷ path, row) es order)) in
        absurd cc

opened_root : (limits : LimitsValue) (g : MappingValue) (row : NodeRow) → row.kind ≡ Container → opened (opening_within g (root_of row) limits) ≡ front (([], row) ∷ [])
opened_root limits g row is = λ i. finite.insert finite.empty [] (record { kind = sym is i; owner = row.owner; group = row.group; dacl = row.dacl })

made_by : (limits : LimitsValue) (g : MappingValue) (t : PlainTree) → IsWithinLimits limits g t → (root : NodeRow) → root.kind ≡ Container → (rest : List Entry) → ([], root) ∷ rest ≡ finite.entries t
    → (xs ys : List Entry) → xs ++ ys ≡ rest
    → IsLawful (opening_within g (root_of root) limits) (map addition xs) × (replay (opening_within g (root_of root) limits) (map addition xs) ≡ front (([], root) ∷ xs))
made_by limits g t ok root is rest begins = by_last P (λ ys parts. (lawful_none o, replay-none o ∙ opened_root limits g root is)) more
  where
    o : Opening
    o = opening_within g (root_of root) limits

    P : List Entry → Type 0
    P xs = (ys : List Entry) → xs ++ ys ≡ rest → IsLawful o (map addition xs) × (replay o (map addition xs) ≡ front (([], root) ∷ xs))

    more : (xs : List Entry) (e : Entry) → P xs → P (xs ++ e ∷ [])
    more xs e before ys parts =
        let split : xs ++ (e ∷ ys) ≡ rest = sym (append_assoc xs (e ∷ []) ys) ∙ parts in
        let ih = before (e ∷ ys) split in
        let edits = map addition xs in
        let all : (([], root) ∷ xs) ++ (e ∷ ys) ≡ finite.entries t = ap (λ zs. ([], root) ∷ zs) split ∙ begins in
        let longer = length-append (([], root) ∷ xs) (e ∷ ys) in
        let count = ap (λ (zs : List Entry). length zs) all in
        let mapped = length-map xs addition in
        let size = len-entries t in
        let short : length edits < limits.edits = omega (arith, longer, count, mapped, size, ok.short) in
        let next = next_accepted limits g t ok root (([], root) ∷ xs) e ys all refl (length edits) short in
        let fits : refusal o edits (addition e) ≡ None = ap (λ u. refusal_in limits g u (length edits) (addition e)) ih.1 ∙ next.0 in
        let grown : map addition (xs ++ e ∷ []) ≡ edits ++ addition e ∷ [] = map-append addition xs (e ∷ []) in (
          subst (IsLawful o) (sym grown) (lawful_push o edits (addition e) ih.0 fits),
          ap (replay o) grown ∙ replay-push o edits (addition e) ∙ ap (λ u. edited g u (addition e)) ih.1 ∙ next.1,
        )

front_is_tree : (t : PlainTree) → front (finite.entries t) ≡ t
front_is_tree t = same_map names_cmp_total names_cmp_antisymmetric (front (finite.entries t)) t (λ q. get-from_entries names_cmp_total (finite.entries t) q ∙ sym (get-entries t q))

root_accepted : (limits : LimitsValue) (g : MappingValue) (t : PlainTree) → IsWithinLimits limits g t → (root : NodeRow) → root.kind ≡ Container → row_at t [] ≡ Some root → (rest : List Entry) → ([], root) ∷ rest ≡ finite.entries t
    → root_refusal (opening_within g (root_of root) limits) ≡ None
root_accepted limits g t ok root is there rest begins =
    let sound = ok.sound [] root there in
    let large = ap (has_large_dacl g) (opened_root limits g root is) ∙ small_front g t (([], root) ∷ []) rest ok.small begins in
    all_pass (list_tests root.dacl ++ (has_large_dacl g (opened (opening_within g (root_of root) limits)), AclTooLarge) ∷ []) (sound.explicit, (sound.ordered, (large, tt)))

-- the root, and additions of all other nodes, are accepted and make the tree
pub remade : (o : Opening) (journal : List Edit) → root_refusal o ≡ None → IsLawful o journal
    → (root : NodeRow) → root.kind ≡ Container → row_at (replay o journal) [] ≡ Some root
    → (rest : List Entry) → ([], root) ∷ rest ≡ finite.entries (replay o journal)
    → Makes (opening_within o.mapping (root_of root) o.limits) (map addition rest) (replay o journal)
remade o journal fits lawful root is there rest begins =
    let t = replay o journal in
    let ok = within_limits o journal fits lawful in
    let all = made_by o.limits o.mapping t ok root is rest begins rest [] (append-nil rest) in
    record {
      accepted = root_accepted o.limits o.mapping t ok root is there rest begins;
      lawful = all.0;
      made = all.1 ∙ ap front begins ∙ front_is_tree t;
    }
