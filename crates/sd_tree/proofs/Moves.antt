-- The plan of a move, and what is refused of it.
use Rattle.sd_tree.proofs.Cited.{All, AllWithin, AreStanding, AreUnder, Bool, Greater, HoldsAt, IsDepthError, IsExchange, IsLargeError, IsLateError, IsMovable, IsRunBelow, IsSizeError, IsTaken, Less, List, MappingValue, Memory, Move, Names, Node, NodeRow, PlainTree, Refused, Some, TreeError, [], and_from, ap, append-nil, arith, cases_lt, contains_key-keys, dacl_at, dacl_at-moved_top, eq_by_cmp, false, get_or, get_or-map, goes_too_deep, has_large_dacl, inl, inr, is_some, is_within, length, length-append, length-map, list_any, map, moved, moved_path, moved_path-append, moves_too_deep, names_cmp, nat_lt, nat_tests, one_path, path_of_node, refl, relocated, row_at, row_at-moved_there, subst, sym, tree_of, true, within_rest, ℕ, ◌&&◌, ◌+◌, ◌-◌, ◌<◌, ◌∙◌, ◌∷◌, ◌≡◌, ◌≤◌, ◌⊎◌}
use Rattle.std.specs.FinMap as finite
use Rattle.sd_tree.proofs.CarriedOut.{key_at, keys_count, exchange_carried}
use Rattle.sd_tree.proofs.Fitting.{no_large, none_found}
use Rattle.sd_tree.proofs.Kept.{row_here}
use Rattle.sd_tree.proofs.Planned.{out_source, back_low, back_high, forth_low, forth_high, not_within, moving}
use Rattle.sd_tree.proofs.Rebuilding.{large_error, found_by}
use Rattle.sd_tree.proofs.NewNode.{size_error}

pub moved_length : (source target path : Names) → is_within source path ≡ true
    → (length (moved_path source target path) + length source ≡ length target + length path) × (length source ≤ length path)
moved_length source target path h =
    let found = within_rest source path h in
    let whole = ap length found.1 ∙ length-append source found.0 in
    let moved = ap length (ap (moved_path source target) found.1 ∙ moved_path-append source target found.0) ∙ length-append target found.0 in
    (omega (arith, whole, moved), omega (arith, whole))

module _ (g : MappingValue) (bs : List Node) (standing : AreStanding g bs) (source target : Names) (can : IsMovable (tree_of bs) source target)
    (from : ℕ) (in' : from < length bs) (stands : HoldsAt (λ c. path_of_node c ≡ source) bs from) where
  abbrev after : PlainTree
  after = moved (tree_of bs) source target

  pub large_late : (e : TreeError) → IsLargeError g after e → IsLateError g (tree_of bs) (Move source target) e
  large_late (Refused refusal) h = λ limits count. rw (h.1, h.0) refl
  large_late Memory h = tt

  -- ---- the first of the run

  module _ (row : NodeRow) (row-is : (b : Node) → row ≡ (get_or bs from b).row) (b : Node) where
    row_there : row_at (tree_of bs) source ≡ Some row
    row_there = ap (row_at (tree_of bs)) (sym (stands b)) ∙ row_here bs standing.kept.order from b in' ∙ ap Some (sym (row-is b))

    row_after : row_at after target ≡ Some row
    row_after =
        ap (row_at after) (sym (append-nil target)) ∙ row_at-moved_there (tree_of bs) standing.closed source target can.place.free []
        ∙ ap (row_at (tree_of bs)) (append-nil source) ∙ row_there

    pub first_refused : (e : TreeError) → IsSizeError e (dacl_at g (finite.insert (tree_of bs) target row) target) → IsLargeError g after e
    first_refused e h =
        large_error g after target row e row_after
        (size_error e _ _ (sym (dacl_at-moved_top g (tree_of bs) standing.closed source target can row row_there)) h)

  module _ (first : Node) (row-is : (b : Node) → first.row ≡ (get_or bs from b).row) (whole-is : first.whole ≡ dacl_at g (finite.insert (tree_of bs) target first.row) target) where
    -- the tree after the move has it at the target
    pub is_moved : IsTaken g (tree_of bs) after source target first
    is_moved = record {
      row_is = row_after first.row row-is first;
      whole_is = dacl_at-moved_top g (tree_of bs) standing.closed source target can first.row (row_there first.row row-is first) ∙ sym whole-is;
      below = λ name rest. row_at-moved_there (tree_of bs) standing.closed source target can.place.free (name ∷ rest);
    }

    -- ---- the run

    module _ (run : List Node) (r : IsRunBelow bs source from (length run)) (u : AreUnder g bs source from first run) (at : ℕ) (at-fits : at ≤ length bs)
        (low : AllWithin (λ b. names_cmp (path_of_node b) target ≡ Less) bs 0 at) (high : AllWithin (λ b. names_cmp (path_of_node b) target ≡ Greater) bs at (length bs)) where
      abbrev gone : List Node
      gone = map (relocated source target) run

      pub gap_behind : from < at → from + length run ≤ at
      gap_behind lt = not_within g bs standing source target can from in' stands (length run) r at lt low high

      goes : (to : ℕ) → ((at ≤ from) × (to ≡ at)) ⊎ ((from < at) × (to ≡ at - length run)) → IsExchange g (tree_of bs) after from (length run) to gone
      goes to (inl back) =
          let fits = r.fits in
          let P : ℕ → Type 0 = λ k. IsExchange g (tree_of bs) after from (length run) k gone in
          subst P (sym back.1) (moving g bs standing source target can from in' stands (length run) r first (row-is first) run u refl at (omega (arith, fits, back.0))
          (back_low g bs standing source target can from in' stands (length run) r at at-fits low high back.0)
          (back_high g bs standing source target can from in' stands (length run) r at at-fits low high back.0) is_moved)
      goes to (inr forth) =
          let le = gap_behind forth.0 in
          let P : ℕ → Type 0 = λ k. IsExchange g (tree_of bs) after from (length run) k gone in
          subst P (sym forth.1) (moving g bs standing source target can from in' stands (length run) r first (row-is first) run u refl (at - length run) (omega (arith, le, at-fits))
          (forth_low g bs standing source target can from in' stands (length run) r at at-fits low high le)
          (forth_high g bs standing source target can from in' stands (length run) r at at-fits low high le) is_moved)

      -- the plan, where the target's place is before the run, and where it is behind it
      pub plan_moved : (to : ℕ) → ((at ≤ from) × (to ≡ at)) ⊎ ((from < at) × (to ≡ at - length run)) → IsExchange g (tree_of bs) after from (length gone) to gone
      plan_moved to where' =
          let P : ℕ → Type 0 = λ n. IsExchange g (tree_of bs) after from n to gone in
          subst P (sym (length-map run (relocated source target))) (goes to where')

      some_place : (to : ℕ) × IsExchange g (tree_of bs) after from (length run) to gone
      some_place = elim (cases_lt from at) [
        | inl lt ↦ (at - length run, goes (at - length run) (inr (lt, refl)))
        | inr le ↦ (at, goes at (inl (le, refl)))
      ]

      no_large_moved : has_large_dacl g after ≡ false
      no_large_moved =
          let done = exchange_carried g bs standing.kept after from (length run) some_place.0 gone some_place.1 in
          ap (has_large_dacl g) (sym done.0) ∙ no_large g _ done.1

      -- ---- how many names the moved paths have

      too_deep : (k : ℕ) → k < length run → ((b : Node) → 64 < length (moved_path source target (path_of_node (get_or run k b)))) → moves_too_deep (tree_of bs) (Move source target) ≡ true
      too_deep k lt deep =
          let b = first in
          let fits = r.fits in
          let q = path_of_node (get_or bs (from + k) b) in
          let known : list_any (eq_by_cmp names_cmp q) (finite.keys (tree_of bs)) ≡ true =
          sym (contains_key-keys (tree_of bs) q) ∙ ap is_some (row_here bs standing.kept.order (from + k) b (omega (arith, fits))) in
          let P : Names → Type 0 = λ p. 64 < length (moved_path source target p) in
          let long : goes_too_deep source target q ≡ true =
          and_from (is_within source q) (nat_lt 64 (length (moved_path source target q))) (r.below (from + k) b (omega arith) (omega arith)) (deep_is _ (subst P (u.paths k b b lt) (deep b))) in
          found_by (goes_too_deep source target) (eq_by_cmp names_cmp q) (λ path same. ap (goes_too_deep source target) (sym (one_path q path same)) ∙ long) (finite.keys (tree_of bs)) known
        where
          deep_is : (n : ℕ) → 64 < n → nat_lt 64 n ≡ true
          deep_is n lt = grind (arith, nat_tests)

      pub deep_refused : (e : TreeError) → IsDepthError source target run e → IsLateError g (tree_of bs) (Move source target) e
      deep_refused (Refused refusal) h = λ limits count. rw (no_large_moved, too_deep h.1 h.2 h.3, h.0) refl
      deep_refused Memory h = tt

      -- a run none of whose paths is too long is all that goes
      pub none_too_deep : All (λ (n : Node). length n.path ≤ 64) gone → moves_too_deep (tree_of bs) (Move source target) ≡ false
      none_too_deep short = none_found (goes_too_deep source target) (finite.keys (tree_of bs)) (λ k d lt.
          let in-k : k < length bs = omega (arith, keys_count bs standing.kept.order) in
          ap (goes_too_deep source target) (key_at bs standing.kept.order k d first in-k) ∙ shallow k in-k)
        where
          outside : (k : ℕ) → k < length bs → (k < from) ⊎ (from + length run ≤ k) → goes_too_deep source target (path_of_node (get_or bs k first)) ≡ false
          outside k lt where' = ap (λ i. i && nat_lt 64 (length (moved_path source target (path_of_node (get_or bs k first))))) (out_source g bs standing source target can from in' stands (length run) r k first lt where')

          not_deep : (i : Bool) (n : ℕ) → n ≤ 64 → (i && nat_lt 64 n) ≡ false
          not_deep true n le = grind (arith, nat_tests)
          not_deep false n le = refl

          shallow : (k : ℕ) → k < length bs → goes_too_deep source target (path_of_node (get_or bs k first)) ≡ false
          shallow k lt = elim (cases_lt k from) [
            | inl low' ↦ outside k lt (inl low')
            | inr ge ↦ elim (cases_lt k (from + length run)) [
              | inl inside ↦
                  let in-run : k - from < length run = omega arith in
                  let here : from + (k - from) ≡ k = omega arith in
                  let P : Names → Type 0 = λ p. length p ≤ 64 in
                  not_deep _ _ (subst P (ap path_of_node (get_or-map (relocated source target) run (k - from) first first in-run)
                  ∙ ap (moved_path source target) (u.paths (k - from) first first in-run ∙ ap (λ i. path_of_node (get_or bs i first)) here))
                  (short (k - from) first (omega (arith, in-run, length-map run (relocated source target)))))
              | inr high' ↦ outside k lt (inr high')
            ]
          ]
