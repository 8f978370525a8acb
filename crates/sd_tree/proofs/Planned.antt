-- The plan of a move is for the tree that it makes.
use Rattle.sd_tree.proofs.Cited.{All, All-drop, All-take, AllWithin, AreStanding, AreUnder, Greater, HoldsAt, IsExchange, IsMovable, IsRunBelow, IsTaken, Less, List, MappingValue, Names, Node, PlainTree, T, [], ap, arith, cases_Bool, cases_lt, dacl_at, dacl_at-moved_other, drop, drop-drop, entries_sorted, entry_of, exchanged, false, false≢true, find, get-entries, get_or, get_or-append_right, get_or-drop, get_or-map, get_or-take, get_or_append_left, get_or_default, inl, inr, is_sorted, is_within, length, length-append, length-drop, length-map, less_from_greater, map, map-append, moved, moved_entry, moved_path, moved_path-append, moved_path-outside, names_cmp, names_cmp_antisymmetric, names_cmp_prefix, names_cmp_total, nothing_below, path_of_node, refl, relocated, row_at-moved, same_entries, same_lists, same_or_other, subst, suc, sym, take, take-append-drop, taken, tree_of, within-append, within_before, within_between, within_rest, without_run, zero, ℕ, ◌++◌, ◌+◌, ◌-◌, ◌<◌, ◌∙◌, ◌∷◌, ◌≡◌, ◌≤◌, ◌⊎◌}
use Rattle.std.specs.FinMap as finite
use Rattle.sd_tree.proofs.CarriedOut.{key_at, keys_count}
use Rattle.sd_tree.proofs.Going.{Entry, Rise, Inside, Outside, Low, High, sorted_from, rise_with_run, find_swap}
use Rattle.sd_tree.proofs.Kept.{entries_kept, row_here, a_node}
use Rattle.sd_tree.proofs.Places.{paths_rise}
use Rattle.sd_tree.proofs.Rebuilding.{not_before_itself, not_both}
use Rattle.sd_tree.proofs.Under.{whole_taken}

map_still : {X : Type 0} (f : X → X) (xs : List X) → ((k : ℕ) (d : X) → k < length xs → f (get_or xs k d) ≡ get_or xs k d) → map f xs ≡ xs
map_still f [] h = refl
map_still f (x ∷ xs) h = λ i. h zero x (omega arith) i ∷ map_still f xs (λ k d lt. h (suc k) d (omega arith)) i

split_again : {X : Type 0} (n m : ℕ) (xs : List X) → take n xs ++ (take m (drop n xs) ++ drop (n + m) xs) ≡ xs
split_again n m xs =
    ap (λ ys. take n xs ++ (take m (drop n xs) ++ ys)) (sym (drop-drop m n xs))
    ∙ ap (λ ys. take n xs ++ ys) (take-append-drop m (drop n xs))
    ∙ take-append-drop n xs

module _ (g : MappingValue) (bs : List Node) (standing : AreStanding g bs) (source target : Names) (can : IsMovable (tree_of bs) source target)
    (from : ℕ) (in' : from < length bs) (stands : HoldsAt (λ c. path_of_node c ≡ source) bs from) where
  abbrev pub tree : PlainTree
  tree = tree_of bs

  -- ---- where the source and the target aren't

  pub out_target : (k : ℕ) (b : Node) → k < length bs → is_within target (path_of_node (get_or bs k b)) ≡ false
  out_target k b lt = nothing_below (tree_of bs) standing.closed target (path_of_node (get_or bs k b)) (get_or bs k b).row can.place.free (row_here bs standing.kept.order k b lt)

  pub out_before : (k : ℕ) (b : Node) → k < from → is_within source (path_of_node (get_or bs k b)) ≡ false
  out_before k b low = elim (cases_Bool (is_within source (path_of_node (get_or bs k b)))) [
    | inl inside ↦
        let path = path_of_node (get_or bs k b) in
        let before' : names_cmp path source ≡ Less = rw (stands b) at (paths_rise bs standing.kept.order k from b low in') in
        absurd (elim (same_or_other path source) [
          | inl same ↦ not_before_itself path source same before'
          | inr other ↦ not_both path source before' (within_before source path inside other)
        ])
    | inr outside ↦ outside
  ]

  module _ (count : ℕ) (r : IsRunBelow bs source from count) where
    pub out_source : (k : ℕ) (b : Node) → k < length bs → (k < from) ⊎ (from + count ≤ k) → is_within source (path_of_node (get_or bs k b)) ≡ false
    out_source k b lt (inl low) = out_before k b low
    out_source k b lt (inr high) = r.beyond k b high lt

    abbrev pub es : List Entry
    es = map entry_of bs

    abbrev pub rest : List Entry
    rest = without_run from count es

    front_length : length (take from es) ≡ from
    front_length = taken from es (omega (arith, length-map bs entry_of))

    back_length : length (drop (from + count) es) + (from + count) ≡ length bs
    back_length = omega (arith, length-drop (from + count) es, length-map bs entry_of, r.fits)

    pub rest_length : length rest + count ≡ length bs
    rest_length = omega (arith, length-append (take from es) (drop (from + count) es), front_length, back_length)

    -- what stands at a place of the rest
    pub rest_low : (k : ℕ) (d : Entry) (b : Node) → k < from → get_or rest k d ≡ entry_of (get_or bs k b)
    rest_low k d b lt =
        get_or_append_left (take from es) (drop (from + count) es) d k (omega (arith, front_length))
        ∙ get_or-take from es k d lt ∙ get_or-map entry_of bs k b d (omega arith)

    pub rest_high : (k : ℕ) (d : Entry) (b : Node) → from ≤ k → k + count < length bs → get_or rest k d ≡ entry_of (get_or bs (k + count) b)
    rest_high k d b ge lt =
        let place : from + count + (k - from) ≡ k + count = omega arith in
        get_or-append_right (take from es) (drop (from + count) es) from k d front_length ge
        ∙ get_or-drop (from + count) es (k - from) d ∙ ap (λ j. get_or es j d) place ∙ get_or-map entry_of bs (k + count) b d lt

    -- a property of all places beside the run
    pub rest_all : (P : Entry → Type 0) → ((k : ℕ) (b : Node) → k < length bs → (k < from) ⊎ (from + count ≤ k) → P (entry_of (get_or bs k b))) → All P rest
    rest_all P h k d lt =
        let b = a_node bs from in' in
        elim (cases_lt k from) as (λ _. P (get_or rest k d)) [
          | inl low ↦ subst P (sym (rest_low k d b low)) (h k b (omega arith) (inl low))
          | inr ge ↦ subst P (sym (rest_high k d b ge (omega (arith, rest_length)))) (h (k + count) b (omega (arith, rest_length)) (inr (omega arith)))
        ]

    rest_rises : Rise rest
    rest_rises i j d lt in-j =
        let b = a_node bs from in' in
        let order = standing.kept.order in
        elim (cases_lt j from) [
          | inl low ↦ (λ t. names_cmp (rest_low i d b (omega arith) t).0 (rest_low j d b low t).0) ∙ paths_rise bs order i j b lt (omega arith)
          | inr ge ↦
              let right = rest_high j d b ge (omega (arith, rest_length)) in
              elim (cases_lt i from) [
                | inl low ↦ (λ t. names_cmp (rest_low i d b low t).0 (right t).0) ∙ paths_rise bs order i (j + count) b (omega arith) (omega (arith, rest_length))
                | inr also ↦ (λ t. names_cmp (rest_high i d b also (omega (arith, rest_length)) t).0 (right t).0) ∙ paths_rise bs order (i + count) (j + count) b (omega arith) (omega (arith, rest_length))
              ]
        ]

    -- ---- the moved run

    module _ (first : Node) (first-is : first.row ≡ (get_or bs from first).row) (run : List Node) (u : AreUnder g bs source from first run) (counted : length run ≡ count) where
      abbrev pub gone : List Node
      gone = map (relocated source target) run

      abbrev pub moved_es : List Entry
      moved_es = map entry_of gone

      -- the rows stay
      row_still : (k : ℕ) (b c : Node) → k < length run → (get_or run k c).row ≡ (get_or bs (from + k) b).row
      row_still k b c lt = elim (cases_lt 0 k) [
        | inl behind ↦ u.rows k b c behind lt
        | inr le ↦
            let none : 0 ≡ k = omega arith in
            let place : from ≡ from + k = omega arith in
            ap (λ j. (get_or run j c).row) (sym none) ∙ ap (λ (n : Node). n.row) (u.first_is c) ∙ first-is
            ∙ ap (λ (n : Node). n.row) (get_or_default bs from first b in') ∙ ap (λ j. (get_or bs j b).row) place
      ]

      moved_at : (k : ℕ) (d : Entry) (b : Node) → k < count → get_or moved_es k d ≡ moved_entry source target (entry_of (get_or bs (from + k) b))
      moved_at k d b lt =
          let in-run : k < length run = omega (arith, counted) in
          get_or-map entry_of gone k b d (omega (arith, in-run, length-map run (relocated source target)))
          ∙ ap entry_of (get_or-map (relocated source target) run k b b in-run)
          ∙ (λ i. (moved_path source target (u.paths k b b in-run i), row_still k b b in-run i))

      moved_count : length moved_es ≡ count
      moved_count = length-map gone entry_of ∙ length-map run (relocated source target) ∙ counted

      run_rest : (k : ℕ) (b : Node) → k < count → (names : Names) × (path_of_node (get_or bs (from + k) b) ≡ source ++ names)
      run_rest k b lt = within_rest source (path_of_node (get_or bs (from + k) b)) (r.below (from + k) b (omega arith) (omega arith))

      moved_key : (k : ℕ) (d : Entry) (b : Node) (lt : k < count) → (get_or moved_es k d).0 ≡ target ++ (run_rest k b lt).0
      moved_key k d b lt =
          ap (λ (e : Entry). e.0) (moved_at k d b lt) ∙ ap (moved_path source target) (run_rest k b lt).1 ∙ moved_path-append source target (run_rest k b lt).0

      moved_inside : All (Inside target) moved_es
      moved_inside k d lt =
          let b = a_node bs from in' in
          let in-k : k < count = omega (arith, moved_count) in
          ap (is_within target) (moved_key k d b in-k) ∙ within-append target (run_rest k b in-k).0

      moved_rises : Rise moved_es
      moved_rises i j d lt in-j =
          let b = a_node bs from in' in
          let in-i : i < count = omega (arith, moved_count) in
          let in-k : j < count = omega (arith, moved_count) in
          let fits = r.fits in
          let old = paths_rise bs standing.kept.order (from + i) (from + j) b (omega arith) (omega (arith, fits)) in
          (λ t. names_cmp (moved_key i d b in-i t) (moved_key j d b in-k t))
          ∙ names_cmp_prefix target (run_rest i b in-i).0 (run_rest j b in-k).0
          ∙ sym (names_cmp_prefix source (run_rest i b in-i).0 (run_rest j b in-k).0)
          ∙ sym (λ t. names_cmp ((run_rest i b in-i).1 t) ((run_rest j b in-k).1 t))
          ∙ old

      -- the entries with their new keys, where they stood
      still_low : map (moved_entry source target) (take from es) ≡ take from es
      still_low = map_still (moved_entry source target) (take from es) (λ k d lt.
          let b = a_node bs from in' in
          let in-k : k < from = omega (arith, front_length) in
          let is : get_or (take from es) k d ≡ entry_of (get_or bs k b) = get_or-take from es k d in-k ∙ get_or-map entry_of bs k b d (omega arith) in
          ap (moved_entry source target) is
          ∙ (λ i. (moved_path-outside source target (path_of_node (get_or bs k b)) (out_before k b in-k) i, (get_or bs k b).row))
          ∙ sym is)

      still_high : map (moved_entry source target) (drop (from + count) es) ≡ drop (from + count) es
      still_high = map_still (moved_entry source target) (drop (from + count) es) (λ k d lt.
          let b = a_node bs from in' in
          let in-k : from + count + k < length bs = omega (arith, back_length) in
          let is : get_or (drop (from + count) es) k d ≡ entry_of (get_or bs (from + count + k) b) = get_or-drop (from + count) es k d ∙ get_or-map entry_of bs (from + count + k) b d in-k in
          ap (moved_entry source target) is
          ∙ (λ i. (moved_path-outside source target (path_of_node (get_or bs (from + count + k) b)) (r.beyond (from + count + k) b (omega arith) in-k) i, (get_or bs (from + count + k) b).row))
          ∙ sym is)

      mid_length : length (take count (drop from es)) ≡ count
      mid_length = taken count (drop from es) (omega (arith, length-drop from es, length-map bs entry_of, r.fits))

      moved_mid : map (moved_entry source target) (take count (drop from es)) ≡ moved_es
      moved_mid =
          let f = moved_entry source target in
          let mid = take count (drop from es) in
          same_lists (map f mid) moved_es (length-map mid f ∙ mid_length ∙ sym moved_count) (λ k d lt.
          let b = a_node bs from in' in
          let in-k : k < count = omega (arith, length-map mid f, mid_length) in
          let fits = r.fits in
          get_or-map f mid k d d (omega (arith, mid_length))
          ∙ ap f (get_or-take count (drop from es) k d in-k ∙ get_or-drop from es k d ∙ get_or-map entry_of bs (from + k) b d (omega (arith, fits)))
          ∙ sym (moved_at k d b in-k))

      rekeyed : map (moved_entry source target) es ≡ take from es ++ (moved_es ++ drop (from + count) es)
      rekeyed =
          let f = moved_entry source target in
          let mid = take count (drop from es) in
          ap (map f) (sym (split_again from count es))
          ∙ map-append f (take from es) (mid ++ drop (from + count) es)
          ∙ ap (λ ys. map f (take from es) ++ ys) (map-append f mid (drop (from + count) es))
          ∙ (λ i. still_low i ++ (moved_mid i ++ still_high i))

      -- ---- the gap

      module _ (to : ℕ) (place : to + count ≤ length bs) (low : All (Low target) (take to rest)) (high : All (High target) (drop to rest)) where
        rest_out : All (Outside target) rest
        rest_out = rest_all (Outside target) (λ k b lt where'. out_target k b lt)

        pub made : finite.entries (moved (tree_of bs) source target) ≡ exchanged from count to moved_es (finite.entries (tree_of bs))
        made =
            let t' = moved (tree_of bs) source target in
            let before = take to rest in
            let behind = drop to rest in
            let new = before ++ (moved_es ++ behind) in
            let split : before ++ behind ≡ rest = take-append-drop to rest in
            let behind_out : All (Outside target) behind = All-drop (Outside target) to rest rest_out in
            let before_out : All (Outside target) before = All-take (Outside target) to rest rest_out in
            let low_out : All (Outside target) (take from es) = (λ k d lt.
            let b = a_node bs from in' in
            let in-k : k < from = omega (arith, front_length) in
            ap (λ (e : Entry). is_within target e.0) (get_or-take from es k d in-k ∙ get_or-map entry_of bs k b d (omega arith)) ∙ out_target k b (omega arith)) in
            let rises_before : Rise before = (λ i j d lt in-j.
            let n = taken to rest (omega (arith, rest_length)) in
            (λ t. names_cmp (get_or-take to rest i d (omega (arith, n)) t).0 (get_or-take to rest j d (omega (arith, n)) t).0) ∙ rest_rises i j d lt (omega (arith, n, rest_length))) in
            let rises_behind : Rise behind = (λ i j d lt in-j.
            (λ t. names_cmp (get_or-drop to rest i d t).0 (get_or-drop to rest j d t).0) ∙ rest_rises (to + i) (to + j) d (omega arith) (omega (arith, length-drop to rest))) in
            let sorted : T (is_sorted names_cmp new) = sorted_from new (rise_with_run target before moved_es behind rises_before moved_rises rises_behind low moved_inside high behind_out) in
            same_entries names_cmp names_cmp_total names_cmp_antisymmetric (finite.entries t') new (entries_sorted t') sorted
            (λ p.
            sym (get-entries t' p)
            ∙ row_at-moved (tree_of bs) source target p
            ∙ ap (λ xs. find names_cmp p (map (moved_entry source target) xs)) (entries_kept bs standing.kept.order)
            ∙ ap (find names_cmp p) rekeyed
            ∙ sym (find_swap target p moved_es (take from es) (drop (from + count) es) moved_inside low_out)
            ∙ ap (λ xs. find names_cmp p (moved_es ++ xs)) (sym split)
            ∙ find_swap target p moved_es before behind moved_inside before_out)
            ∙ ap (exchanged from count to moved_es) (sym (entries_kept bs standing.kept.order))

        -- the plan
        pub moving : IsTaken g (tree_of bs) (moved (tree_of bs) source target) source target first → IsExchange g (tree_of bs) (moved (tree_of bs) source target) from count to gone
        moving taken =
            let t' = moved (tree_of bs) source target in
            let keys = keys_count bs standing.kept.order in
            let b = a_node bs from in' in
            let run_fits = r.fits in
            record {
              fits = omega (arith, run_fits, keys);
              place = omega (arith, place, keys);
              made = made;
              whole = λ k d lt.
                  let in-run : k < length run = omega (arith, length-map run (relocated source target)) in
                  let rest = run_rest k b (omega (arith, counted)) in
                  let path : path_of_node (get_or gone k d) ≡ target ++ rest.0 =
                  ap path_of_node (get_or-map (relocated source target) run k d d in-run)
                  ∙ ap (moved_path source target) (u.paths k b d in-run ∙ rest.1) ∙ moved_path-append source target rest.0 in
                  let whole-is : (get_or gone k d).whole ≡ (get_or run k d).whole = ap (λ (n : Node). n.whole) (get_or-map (relocated source target) run k d d in-run) in
                  record {
                    is = whole-is ∙ whole_taken g bs standing.kept.order source from stands first run u t' target taken k b d rest.0 in-run rest.1 ∙ ap (dacl_at g t') (sym path);
                    fits = rw whole-is (u.fits k d in-run);
                  };
              others = λ k path lt where'.
                  let in-k : k < length bs = omega (arith, keys) in
                  let there = key_at bs standing.kept.order k path b in-k in
                  ap (dacl_at g t') there
                  ∙ dacl_at-moved_other g (tree_of bs) source target (path_of_node (get_or bs k b)) (out_source k b in-k where') (out_target k b in-k)
                  ∙ sym (ap (dacl_at g (tree_of bs)) there);
            }

    -- ---- where the target's place is among those beside the run

    abbrev pub AreBelow : ℕ → Type 0
    AreBelow at = AllWithin (λ b. names_cmp (path_of_node b) target ≡ Less) bs 0 at

    abbrev pub AreAbove : ℕ → Type 0
    AreAbove at = AllWithin (λ b. names_cmp (path_of_node b) target ≡ Greater) bs at (length bs)

    pub not_within : (at : ℕ) → from < at → AreBelow at → AreAbove at → from + count ≤ at
    not_within at lt low high = elim (cases_lt at (from + count)) [
      | inl in-at ↦
          let b = a_node bs from in' in
          let fits = r.fits in
          let first : names_cmp source target ≡ Less = rw (stands b) at (low from b (omega arith) lt) in
          let second = less_from_greater names_cmp_total (path_of_node (get_or bs at b)) target (high at b (omega arith) (omega arith)) in
          absurd (false≢true (sym can.apart ∙ within_between source target (path_of_node (get_or bs at b)) first second (r.below at b (omega arith) in-at)))
      | inr le ↦ le
    ]

    module _ (at : ℕ) (at-fits : at ≤ length bs) (are-below : AreBelow at) (are-above : AreAbove at) where
      pub back_low : at ≤ from → All (Low target) (take at rest)
      back_low le k d lt =
          let b = a_node bs from in' in
          let in-k : k < at = omega (arith, taken at rest (omega (arith, rest_length, r.fits))) in
          ap (λ (e : Entry). names_cmp e.0 target) (get_or-take at rest k d in-k ∙ rest_low k d b (omega arith)) ∙ are-below k b (omega arith) in-k

      pub back_high : at ≤ from → All (High target) (drop at rest)
      back_high le k d lt =
          let b = a_node bs from in' in
          let in-k : at + k < length rest = omega (arith, length-drop at rest) in
          elim (cases_lt (at + k) from) [
            | inl low ↦
                ap (λ (e : Entry). names_cmp target e.0) (get_or-drop at rest k d ∙ rest_low (at + k) d b low)
                ∙ less_from_greater names_cmp_total (path_of_node (get_or bs (at + k) b)) target (are-above (at + k) b (omega arith) (omega arith))
            | inr ge ↦
                ap (λ (e : Entry). names_cmp target e.0) (get_or-drop at rest k d ∙ rest_high (at + k) d b ge (omega (arith, rest_length)))
                ∙ less_from_greater names_cmp_total (path_of_node (get_or bs (at + k + count) b)) target (are-above (at + k + count) b (omega arith) (omega (arith, rest_length)))
          ]

      pub forth_low : from + count ≤ at → All (Low target) (take (at - count) rest)
      forth_low le k d lt =
          let b = a_node bs from in' in
          let in-k : k < at - count = omega (arith, taken (at - count) rest (omega (arith, rest_length))) in
          elim (cases_lt k from) [
            | inl low ↦
                ap (λ (e : Entry). names_cmp e.0 target) (get_or-take (at - count) rest k d in-k ∙ rest_low k d b low) ∙ are-below k b (omega arith) (omega arith)
            | inr ge ↦
                ap (λ (e : Entry). names_cmp e.0 target) (get_or-take (at - count) rest k d in-k ∙ rest_high k d b ge (omega arith)) ∙ are-below (k + count) b (omega arith) (omega arith)
          ]

      pub forth_high : from + count ≤ at → All (High target) (drop (at - count) rest)
      forth_high le k d lt =
          let b = a_node bs from in' in
          let in-k : at - count + k < length rest = omega (arith, length-drop (at - count) rest) in
          ap (λ (e : Entry). names_cmp target e.0) (get_or-drop (at - count) rest k d ∙ rest_high (at - count + k) d b (omega arith) (omega (arith, rest_length)))
          ∙ less_from_greater names_cmp_total (path_of_node (get_or bs (at - count + k + count) b)) target (are-above (at - count + k + count) b (omega arith) (omega (arith, rest_length)))
