-- One more node, where none stands.
use Rattle.sd_tree.proofs.Cited.{AllWithin, AreStanding, Bool, Equal, Greater, HoldsAt, IsAddable, IsClosed, IsExchange, IsSome, IsWhole, Less, List, MappingValue, Names, Node, NodeRow, None, PlainTree, Some, [], all_one, ap, arith, by_last, cases_Bool, changed, changed_where, cond, dacl_at, dacl_at_outside, dacl_size, entries-insert, entries_sorted, entry_of, eq_by_cmp, eq_by_cmp_equiv, exchanged, false, find-where_key, get-entries, get-remove, get_or, get_or-map, greater_from_less, has_child, inl, inr, is_some, is_sorted-where_key, is_within, length, length-map, less_from_greater, map, names_cmp, names_cmp_antisymmetric, names_cmp_total, no_child, not, nothing_below, parent_there, path_of_node, push_not_root, put, put_insert, refl, row_at, row_at-insert_other, row_at-remove_other, same_entries, same_or_other, some_row, sym, tree_of, true, up-push, up_within, where_key, where_remove, within_root, ℕ, ◌++◌, ◌+◌, ◌<◌, ◌∙◌, ◌∷◌, ◌≡◌, ◌≢◌, ◌≤◌, ◌⊎◌}
use Rattle.std.specs.List.{insert}
use Rattle.std.specs.FinMap as finite
use Rattle.std.proofs.Math.ListN.{get_or-map as get_or-mapped}
use Rattle.sd_tree.proofs.Kept.{row_here, entries_kept}
use Rattle.sd_tree.proofs.CarriedOut.{key_at, keys_count, inserted_there, removed_there}
use Rattle.sd_tree.proofs.Rebuilding.{place_same}

pub insertion : (g : MappingValue) (bs : List Node) (standing : AreStanding g bs) (q : Names) (row : NodeRow) → IsAddable (tree_of bs) q
    → (at : ℕ) → at ≤ length bs → AllWithin (λ b. names_cmp (path_of_node b) q ≡ Less) bs 0 at → AllWithin (λ b. names_cmp (path_of_node b) q ≡ Greater) bs at (length bs)
    → (b : Node) → path_of_node b ≡ q → b.row ≡ row
    → b.whole ≡ dacl_at g (finite.insert (tree_of bs) q row) q → dacl_size b.whole ≤ 65535
    → IsExchange g (tree_of bs) (finite.insert (tree_of bs) q row) at 0 at (b ∷ [])
insertion g bs standing q row can at place low high b is-path is-row is-whole fits =
    let order = standing.kept.order in
    let count = keys_count bs order in
    let t' = finite.insert (tree_of bs) q row in
    let es = map entry_of bs in
    let size = length-map bs entry_of in
    let put_there = put_insert names_cmp_total q row es at (omega (arith, place, size))
    (λ k d lt. greater_from_less names_cmp_total _ q (ap (λ (e : Names × NodeRow). names_cmp e.0 q) (get_or-map entry_of bs k b d (omega (arith, place))) ∙ low k b (omega arith) lt))
    (λ k d le lt. less_from_greater names_cmp_total _ q (ap (λ (e : Names × NodeRow). names_cmp e.0 q) (get_or-map entry_of bs k b d (omega (arith, size))) ∙ high k b le (omega (arith, size)))) in
    record {
      fits = omega (arith, count, place);
      place = omega (arith, count, place);
      made =
          entries-insert names_cmp_total (tree_of bs) q row
          ∙ ap (put names_cmp q row) (entries_kept bs order) ∙ put_there
          ∙ sym (λ i. insert es at (is-path i, is-row i))
          ∙ sym (inserted_there at (entry_of b) es (omega (arith, place, size)))
          ∙ ap (exchanged at 0 at (entry_of b ∷ [])) (sym (entries_kept bs order));
      whole = all_one (IsWhole g t') b (record { is = is-whole ∙ ap (dacl_at g t') (sym is-path); fits = fits });
      others = λ k path lt where'.
          let in' : k < length bs = omega (arith, count) in
          let there = key_at bs order k path b in' in
          let found = row_here bs order k b in' in
          ap (dacl_at g t') there
          ∙ dacl_at_outside g t' (tree_of bs) q (path_of_node (get_or bs k b)) (λ p other. row_at-insert_other (tree_of bs) q p row other)
          (nothing_below (tree_of bs) standing.closed q (path_of_node (get_or bs k b)) (get_or bs k b).row can.free found)
          ∙ ap (dacl_at g (tree_of bs)) (sym there);
    }

-- nor below a node without children
pub nothing_below_childless : (t : PlainTree) → IsClosed t → (q path : Names) (row : NodeRow) → has_child t q ≡ false → row_at t path ≡ Some row → path ≢ q → is_within q path ≡ false
nothing_below_childless t closed q path row none there other = elim (cases_Bool (is_within q path)) [
  | inl inside ↦ absurd (by_last P first step path row there inside other)
  | inr outside ↦ outside
]
  where
    P : Names → Type 0
    P p = (row : NodeRow) → row_at t p ≡ Some row → is_within q p ≡ true → p ≢ q → ⊥

    first : P []
    first row there inside other = other (sym (within_root q inside))

    step : (p : Names) (name : List ℕ) → P p → P (p ++ name ∷ [])
    step p name ih row there inside other = elim (same_or_other p q) [
      | inl same ↦ no_child t q (p ++ name ∷ []) row none there (push_not_root p name) (up-push p name ∙ same)
      | inr apart ↦
          let parent : IsSome (row_at t p) = ap (λ r. is_some (row_at t r)) (sym (up-push p name)) ∙ parent_there t closed (p ++ name ∷ []) row there in
          let found = some_row (row_at t p) parent in
          ih found.0 found.1 (ap (is_within q) (sym (up-push p name)) ∙ up_within q (p ++ name ∷ []) inside other) apart
    ]

-- what is left of a tree's entries without a key
entries-remove : (t : PlainTree) (q : Names) → finite.entries (finite.remove t q) ≡ where_key names_cmp (λ x. not (eq_by_cmp names_cmp q x)) (finite.entries t)
entries-remove t q =
    let rest = where_key names_cmp (λ x. not (eq_by_cmp names_cmp q x)) (finite.entries t) in
    same_entries names_cmp names_cmp_total names_cmp_antisymmetric (finite.entries (finite.remove t q)) rest (entries_sorted (finite.remove t q))
    (is_sorted-where_key names_cmp (λ x. not (eq_by_cmp names_cmp q x)) (finite.entries t) (entries_sorted t))
    (λ p.
    let alike : (x : Names) → names_cmp p x ≡ Equal → not (eq_by_cmp names_cmp q x) ≡ not (eq_by_cmp names_cmp q p) =
    λ x tied. ap (λ y. not (eq_by_cmp names_cmp q y)) (sym (names_cmp_antisymmetric p x tied)) in
    sym (get-entries (finite.remove t q) p) ∙ get-remove names_cmp_total t q p
    ∙ ap (λ b. cond b None (finite.get t p)) ((eq_by_cmp_equiv names_cmp_total).symm p q)
    ∙ turned (eq_by_cmp names_cmp q p) None (finite.get t p)
    ∙ ap (λ r. cond (not (eq_by_cmp names_cmp q p)) r None) (get-entries t p)
    ∙ sym (find-where_key names_cmp (λ x. not (eq_by_cmp names_cmp q x)) p alike (finite.entries t)))
  where
    turned : {A : Type 0} (b : Bool) (x y : A) → cond b x y ≡ cond (not b) y x
    turned true x y = refl
    turned false x y = refl

pub removal : (g : MappingValue) (bs : List Node) (standing : AreStanding g bs) (q : Names) → has_child (tree_of bs) q ≡ false
    → (at : ℕ) → at < length bs → HoldsAt (λ b. path_of_node b ≡ q) bs at → (b : Node) → IsExchange g (tree_of bs) (finite.remove (tree_of bs) q) at 1 at []
removal g bs standing q none at place stands b =
    let order = standing.kept.order in
    let count = keys_count bs order in
    let t' = finite.remove (tree_of bs) q in
    let es = map entry_of bs in
    let size = length-map bs entry_of in
    let key : (get_or es at (entry_of b)).0 ≡ q = ap (λ (e : Names × NodeRow). e.0) (get_or-mapped entry_of bs at b) ∙ stands b in
    let gone = where_remove names_cmp_total es order at (entry_of b) (omega (arith, place, size)) in
    record {
      fits = omega (arith, count, place);
      place = omega (arith, count, place);
      made =
          entries-remove (tree_of bs) q
          ∙ ap (where_key names_cmp (λ x. not (eq_by_cmp names_cmp q x))) (entries_kept bs order)
          ∙ (rw key at gone)
          ∙ sym (removed_there at es (omega (arith, place, size)))
          ∙ ap (exchanged at 1 at []) (sym (entries_kept bs order));
      whole = λ k d lt. absurd (omega arith);
      others = λ k path lt where'.
          let in' : k < length bs = omega (arith, count) in
          let there = key_at bs order k path b in' in
          let found = row_here bs order k b in' in
          let apart : path_of_node (get_or bs k b) ≢ q = λ same. beside k where' (place_same bs order k at b in' place (same ∙ sym (stands b))) in
          ap (dacl_at g t') there
          ∙ dacl_at_outside g t' (tree_of bs) q (path_of_node (get_or bs k b)) (λ p ne. row_at-remove_other (tree_of bs) q p ne)
          (nothing_below_childless (tree_of bs) standing.closed q (path_of_node (get_or bs k b)) (get_or bs k b).row none found apart)
          ∙ ap (dacl_at g (tree_of bs)) (sym there);
    }
  where
    beside : (k : ℕ) → ((k < at) ⊎ (at + 1 ≤ k)) → k ≡ at → ⊥
    beside k (inl low) same = omega arith
    beside k (inr high) same = omega arith

-- ---- a node that is changed where it stands
pub changed_there : (t : PlainTree) (path : Names) (change : NodeRow → NodeRow) (row new : NodeRow) → row_at t path ≡ Some row → new ≡ change row → finite.insert t path new ≡ changed t path change
changed_there t path change row new there is = ap (finite.insert t path) is ∙ sym (ap (changed_where t path change) there)
