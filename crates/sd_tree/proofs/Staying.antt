-- A node that is changed where it stands, with what stands below it or alone.
use Rattle.sd_tree.proofs.Cited.{AreStanding, AreUnder, ChangesOneNode, HoldsAt, IsExchange, IsRunBelow, IsTaken, IsWhole, List, MappingValue, Names, Node, NodeRow, Some, [], all_one, ap, arith, dacl_at, dacl_size, drop, drop-drop, drop-set, entries, entries-insert, entry_of, exchanged, get_or, get_or-drop, get_or-map, get_or-take, inl, inr, insert, length, length-drop, length-map, longer, map, names_cmp, names_cmp_total, path_of_node, put, put_set, refl, row_at-insert_other, row_at-insert_same, same_lists, set, suc, sym, take, take-append-drop, take-set, taken, tree_of, within_rest, zero, ℕ, ◌++◌, ◌+◌, ◌<◌, ◌∙◌, ◌∷◌, ◌≡◌, ◌≤◌, ◌⊎◌}
use Rattle.std.proofs.Math.ListN.{get_or-map as get_or-mapped}
use Rattle.sd_tree.proofs.CarriedOut.{key_at, keys_count, exchanged_there, set_there}
use Rattle.sd_tree.proofs.Kept.{entries_kept, a_node}
use Rattle.sd_tree.proofs.Rebuilding.{outside_stays, place_same}
use Rattle.sd_tree.proofs.Under.{whole_taken}

module _ (g : MappingValue) (bs : List Node) (standing : AreStanding g bs) (q : Names) (at : ℕ) (in' : at < length bs) (stands : HoldsAt (λ c. path_of_node c ≡ q) bs at)
    (row : NodeRow) (first : Node) (path-is : path_of_node first ≡ q) (row-is : first.row ≡ row) (whole-is : first.whole ≡ dacl_at g (insert (tree_of bs) q row) q) where
  abbrev es : List (Names × NodeRow)
  es = map entry_of bs

  in-es : at < length es
  in-es = omega (arith, in', length-map bs entry_of)

  -- the entries with the row
  entries_set : entries (insert (tree_of bs) q row) ≡ set es at (entry_of first)
  entries_set =
      let b = a_node bs at in' in
      let key : (get_or es at (entry_of b)).0 ≡ q = ap (λ (e : Names × NodeRow). e.0) (get_or-mapped entry_of bs at b) ∙ stands b in
      let put_there : put names_cmp q row es ≡ set es at (q, row) = rw key at (put_set names_cmp_total row es standing.kept.order at (entry_of b) in-es) in
      entries-insert names_cmp_total (tree_of bs) q row ∙ ap (put names_cmp q row) (entries_kept bs standing.kept.order)
      ∙ put_there ∙ sym (λ i. set es at (path-is i, row-is i))

  -- the tree with the row has it there
  pub is_taken : IsTaken g (tree_of bs) (insert (tree_of bs) q row) q q first
  is_taken = record {
    row_is = row_at-insert_same (tree_of bs) q row ∙ sym (ap Some row-is);
    whole_is = sym whole-is;
    below = λ name rest. row_at-insert_other (tree_of bs) q (q ++ name ∷ rest) row (longer q name rest);
  }

  -- ---- alone
  pub one_changed : dacl_size first.whole ≤ 65535 → ChangesOneNode g (tree_of bs) (insert (tree_of bs) q row) q
      → IsExchange g (tree_of bs) (insert (tree_of bs) q row) at 1 at (first ∷ [])
  one_changed fits alone =
      let order = standing.kept.order in
      let count = keys_count bs order in
      let t = insert (tree_of bs) q row in
      let b = a_node bs at in' in
      record {
        fits = omega (arith, count, in');
        place = omega (arith, count, in');
        made = entries_set ∙ sym (set_there at (entry_of first) es in-es) ∙ ap (exchanged at 1 at (entry_of first ∷ [])) (sym (entries_kept bs order));
        whole = all_one (IsWhole g t) first (record { is = whole-is ∙ ap (dacl_at g t) (sym path-is); fits = fits });
        others = λ k path lt where'.
            let in-k : k < length bs = omega (arith, count) in
            let there = key_at bs order k path b in-k in
            alone _ (λ same. apart k where' (place_same bs order k at b in-k in' (sym there ∙ same ∙ sym (stands b))));
      }
    where
      apart : (k : ℕ) → ((k < at) ⊎ (at + 1 ≤ k)) → k ≡ at → ⊥
      apart k (inl low) same = omega arith
      apart k (inr high) same = omega arith

  -- ---- with what stands below it
  module _ (run : List Node) (r : IsRunBelow bs q at (length run)) (u : AreUnder g bs q at first run) where
    -- the run's entries are the old ones but for the first
    run_entries : (m : ℕ) → length run ≡ suc m → map entry_of run ≡ entry_of first ∷ take m (drop (at + 1) es)
    run_entries m is =
        let size : length (take m (drop (at + 1) es)) ≡ m = taken m (drop (at + 1) es) (omega (arith, is, r.fits, length-drop (at + 1) es, length-map bs entry_of)) in
        same_lists (map entry_of run) (entry_of first ∷ take m (drop (at + 1) es)) (omega (arith, length-map run entry_of, is, size)) entry_is
      where
        entry_is : (k : ℕ) (d : Names × NodeRow) → k < length (map entry_of run) → get_or (map entry_of run) k d ≡ get_or (entry_of first ∷ take m (drop (at + 1) es)) k d
        entry_is zero d lt = get_or-map entry_of run 0 first d (omega (arith, length-map run entry_of)) ∙ ap entry_of (u.first_is first)
        entry_is (suc k) d lt =
            let in-run : suc k < length run = omega (arith, length-map run entry_of) in
            let fits = r.fits in
            let place : at + suc k ≡ at + 1 + k = omega arith in
            get_or-map entry_of run (suc k) first d in-run
            ∙ (λ i. (u.paths (suc k) first first in-run i, u.rows (suc k) first first (omega arith) in-run i))
            ∙ ap (λ j. entry_of (get_or bs j first)) place
            ∙ sym (get_or-take m (drop (at + 1) es) k d (omega (arith, is)) ∙ get_or-drop (at + 1) es k d ∙ get_or-map entry_of bs (at + 1 + k) first d (omega (arith, fits)))

    exchanged_is : (n : ℕ) → length run ≡ n → exchanged at n at (map entry_of run) es ≡ set es at (entry_of first)
    exchanged_is zero is = absurd (omega (arith, is, r.some))
    exchanged_is (suc m) is =
        let x = entry_of first in
        let front = take m (drop (at + 1) es) in
        let place : at + suc m ≡ at + 1 + m = omega arith in
        exchanged_there at (suc m) (map entry_of run) es (omega (arith, in-es))
        ∙ (λ i. take at es ++ (run_entries m is i ++ drop (place i) es))
        ∙ ap (λ ys. take at es ++ x ∷ ys) (ap (λ ys. front ++ ys) (sym (drop-drop m (at + 1) es)) ∙ take-append-drop m (drop (at + 1) es))
        ∙ sym (λ i. take-set es at x i ++ drop-set es at x in-es i) ∙ take-append-drop at (set es at x)

    pub all_changed : IsExchange g (tree_of bs) (insert (tree_of bs) q row) at (length run) at run
    all_changed =
        let order = standing.kept.order in
        let count = keys_count bs order in
        let t = insert (tree_of bs) q row in
        let fits = r.fits in
        record {
          fits = omega (arith, count, fits);
          place = omega (arith, count, fits);
          made = entries_set ∙ sym (exchanged_is (length run) refl) ∙ ap (exchanged at (length run) at (map entry_of run)) (sym (entries_kept bs order));
          whole = λ k d lt.
              let b = a_node bs at in' in
              let found = within_rest q (path_of_node (get_or bs (at + k) b)) (r.below (at + k) b (omega arith) (omega arith)) in
              record {
                is =
                    whole_taken g bs order q at stands first run u t q is_taken k b d found.0 lt found.1
                    ∙ ap (dacl_at g t) (sym (u.paths k b d lt ∙ found.1));
                fits = u.fits k d lt;
              };
          others = λ k path lt where'.
              let b = a_node bs at in' in
              let there = key_at bs order k path b (omega (arith, count)) in
              ap (dacl_at g t) there
              ∙ outside_stays g bs standing q at in' stands row (at + length run) r.beyond k b (omega (arith, count)) where'
              ∙ ap (dacl_at g (tree_of bs)) (sym there);
        }
