-- The tree that nodes are, by their places.
use Rattle.sd_tree.proofs.Cited.{AllWithin, Greater, HoldsAt, IsInOrder, IsNodeAt, IsWhole, Less, List, Names, Node, NodeRow, None, Some, [], ap, arith, cases_lt, dacl_at, entries, entries-from_sorted, entry_of, false, find, find_at, find_none, get-entries, get_or, get_or-map, greater_from_less, inl, inr, is_eq, length, length-map, less_from_greater, map, names_cmp, path_of_node, refl, row_at, subst, sym, ℕ, ◌<◌, ◌∙◌, ◌∷◌, ◌≡◌}
use Rattle.std.proofs.Math.ListN.{get_or-map as get_or-mapped}
use Rattle.sd_tree.specs.Stored.{tree_of}
use Rattle.sd_path.proofs.Paths.{names_cmp_total as names_total}

-- the tree has just the nodes' entries
pub entries_kept : (bs : List Node) → IsInOrder bs → entries (tree_of bs) ≡ map entry_of bs
unfolding tree_of
entries_kept bs h = entries-from_sorted names_cmp (map entry_of bs) h

row_found : (bs : List Node) → IsInOrder bs → (q : Names) → row_at (tree_of bs) q ≡ find names_cmp q (map entry_of bs)
row_found bs h q = get-entries (tree_of bs) q ∙ ap (find names_cmp q) (entries_kept bs h)

-- what stands at a place has its row in the tree
pub row_here : (bs : List Node) → IsInOrder bs → (k : ℕ) (d : Node) → k < length bs → row_at (tree_of bs) (path_of_node (get_or bs k d)) ≡ Some (get_or bs k d).row
row_here bs h k d in' =
    let found : find names_cmp (get_or (map entry_of bs) k (entry_of d)).0 (map entry_of bs) ≡ Some (get_or (map entry_of bs) k (entry_of d)).1 =
    find_at names_total (map entry_of bs) h k (entry_of d) (omega (arith, length-map bs entry_of)) in
    row_found bs h (path_of_node (get_or bs k d)) ∙ (rw (get_or-mapped entry_of bs k d) at found)

-- where every path is below or above, none ties
none_ties : (bs : List Node) (b : Node) (q : Names) (at : ℕ)
    → AllWithin (λ b. names_cmp (path_of_node b) q ≡ Less) bs 0 at
    → AllWithin (λ b. names_cmp (path_of_node b) q ≡ Greater) bs at (length bs)
    → (k : ℕ) (d : Names × NodeRow) → k < length (map entry_of bs) → is_eq (names_cmp q (get_or (map entry_of bs) k d).0) ≡ false
none_ties bs b q at before after k d lt =
    let in' : k < length bs = omega (arith, length-map bs entry_of) in
    rw (get_or-map entry_of bs k b d in') (elim (cases_lt k at) [
      | inl below ↦ ap is_eq (greater_from_less names_total (path_of_node (get_or bs k b)) q (before k b (omega arith) below))
      | inr above ↦ ap is_eq (less_from_greater names_total (path_of_node (get_or bs k b)) q (after k b above in'))
    ])

find_absent : (bs : List Node) (q : Names) (at : ℕ)
    → AllWithin (λ b. names_cmp (path_of_node b) q ≡ Less) bs 0 at
    → AllWithin (λ b. names_cmp (path_of_node b) q ≡ Greater) bs at (length bs)
    → find names_cmp q (map entry_of bs) ≡ None
find_absent [] q at before after = refl
find_absent (b ∷ bs) q at before after = find_none names_total q (map entry_of (b ∷ bs)) (none_ties (b ∷ bs) b q at before after)

-- so nothing stands there
pub row_absent : (bs : List Node) → IsInOrder bs → (q : Names) (at : ℕ)
    → AllWithin (λ b. names_cmp (path_of_node b) q ≡ Less) bs 0 at
    → AllWithin (λ b. names_cmp (path_of_node b) q ≡ Greater) bs at (length bs)
    → row_at (tree_of bs) q ≡ None
row_absent bs h q at before after = row_found bs h q ∙ find_absent bs q at before after

-- what stands at a place is the node of its path
pub node_here : (bs : List Node) (q : Names) (k : ℕ) (b : Node) (n : Node) → IsInOrder bs
    → (k < length bs) × HoldsAt (λ c. path_of_node c ≡ q) bs k → b ≡ get_or bs k b → n ≡ b → IsNodeAt bs q n
node_here bs q k b n h there is-b is-n =
    let path_b : path_of_node b ≡ q = ap path_of_node is-b ∙ there.1 b in
    record {
      stands = ap (λ (m : Node). m.path) is-n ∙ path_b;
      row =
          ap (row_at (tree_of bs)) (sym path_b)
          ∙ ap (λ c. row_at (tree_of bs) (path_of_node c)) is-b
          ∙ row_here bs h k b there.0
          ∙ ap (λ (c : Node). Some c.row) (sym is-b)
          ∙ ap (λ (m : Node). Some m.row) (sym is-n);
      whole = λ g kept.
          let w = kept.whole k b there.0 in
          let P : Node → Type 0 = λ c. IsWhole g (tree_of bs) c in
          let at_b : IsWhole g (tree_of bs) b = subst P (sym is-b) w in (
            ap (λ (m : Node). m.whole) is-n ∙ at_b.is ∙ ap (dacl_at g (tree_of bs)) path_b,
            rw is-n at_b.fits,
          );
    }

-- some node, where there is a place
pub a_node : (bs : List Node) (at : ℕ) → at < length bs → Node
a_node [] at lt = absurd (omega arith)
a_node (b ∷ bs) at lt = b
