-- A run of nodes at and below a path, once its first node is another.
use Rattle.sd_tree.proofs.Cited.{Ace, AllWithin, AreMadeFor, AreStanding, AreUnder, HoldsAt, IsInOrder, IsLargeError, IsSizeError, IsTaken, List, MappingValue, Names, Node, NodeRow, Option, PlainTree, Some, TreeError, [], add-zero, ap, append-nil, arith, behind_own, below_shift, below_up, cases_Bool, cases_lt, dacl_at, dacl_at-append, dacl_at_up, dacl_below, dacl_here, dacl_of_row, dacl_size, false, false≢true, get_or, get_or-append_seam, get_or_append_left, handed_on, inl, inr, is_root, is_within, length, path_of_node, refl, root_is_empty, row_at, suc, sym, tree_of, true, up, up-append, within-append, within_rest, zero, ℕ, ◌++◌, ◌+◌, ◌-◌, ◌<◌, ◌∙◌, ◌∷◌, ◌≡◌, ◌≤◌, ◌⊎◌}
use Rattle.std.proofs.Common.{length-append}
use Rattle.sd_tree.proofs.Beside.{behind_sibling}
use Rattle.sd_tree.proofs.Kept.{row_here}
use Rattle.sd_tree.proofs.Rebuilding.{run_other, run_below_root, parent_place, large_error}
use Rattle.sd_tree.proofs.NewNode.{size_error}

-- what stands at a place behind one more element
more_cases : {X : Type 0} (xs : List X) (x d : X) (k : ℕ) → k < length (xs ++ x ∷ [])
    → ((k < length xs) × (get_or (xs ++ x ∷ []) k d ≡ get_or xs k d)) ⊎ ((k ≡ length xs) × (get_or (xs ++ x ∷ []) k d ≡ x))
more_cases xs x d k lt = elim (cases_lt k (length xs)) [
  | inl low ↦ inl (low, get_or_append_left xs (x ∷ []) d k low)
  | inr ge ↦
      let last : k ≡ length xs = omega (arith, length-append xs (x ∷ [])) in
      inr (last, ap (λ j. get_or (xs ++ x ∷ []) j d) last ∙ get_or-append_seam xs x [] d)
]

-- ---- a tree with the first node elsewhere, and what stood below it

module _ (g : MappingValue) (before after : PlainTree) (source target : Names) (first : Node) (h : IsTaken g before after source target first) where
  pub taken_dacl : (rest : Names) → dacl_at g after (target ++ rest) ≡ dacl_below g before source first.whole rest
  taken_dacl rest = dacl_at-append g after target rest ∙ below_shift g after before target source (dacl_at g after target) first.whole rest h.whole_is h.below

  taken_row : (rest : Names) → is_root rest ≡ false → row_at after (target ++ rest) ≡ row_at before (source ++ rest)
  taken_row [] below = absurd (false≢true (sym below))
  taken_row (n ∷ rest) below = h.below n rest

-- ---- the run, node by node

module _ (g : MappingValue) (bs : List Node) (order : IsInOrder bs) (q : Names) (at : ℕ) (stands : HoldsAt (λ c. path_of_node c ≡ q) bs at) (first : Node) (run : List Node)
    (u : AreUnder g bs q at first run) where
  -- a node behind the first
  module _ (k : ℕ) (b : Node) (behind : at < k) (in' : k < length bs) (rest : Names) (is : path_of_node (get_or bs k b) ≡ q ++ rest) where
    rest_below : is_root rest ≡ false
    rest_below = elim (cases_Bool (is_root rest)) [
      | inl root ↦
          let inside : is_within q (path_of_node (get_or bs k b)) ≡ true = ap (is_within q) is ∙ within-append q rest in
          absurd (run_other bs order q at stands k b behind in' inside (is ∙ ap (λ r. q ++ r) (root_is_empty rest root) ∙ append-nil q))
      | inr below ↦ below
    ]

    row_below : row_at (tree_of bs) (q ++ rest) ≡ Some (get_or bs k b).row
    row_below = ap (row_at (tree_of bs)) (sym is) ∙ row_here bs order k b in'

    -- below what holds it
    module _ (p : ℕ) (c : Node) (low : at ≤ p) (lt : p - at < length run) (there : HoldsAt (λ d. path_of_node d ≡ up (path_of_node (get_or bs k b))) bs p) where
      pub next_under : dacl_of_row g (get_or bs k b).row (get_or run (p - at) c).whole ≡ dacl_below g (tree_of bs) q first.whole rest
      next_under =
          let same : at + (p - at) ≡ p = omega arith in
          let held = ap (λ j. path_of_node (get_or bs j b)) same ∙ there b ∙ ap up is ∙ up-append q rest rest_below in
          ap (dacl_of_row g (get_or bs k b).row) (u.wholes (p - at) b c (up rest) lt held)
          ∙ ap (λ r. dacl_here g r (dacl_below g (tree_of bs) q first.whole (up rest))) (sym row_below)
          ∙ sym (below_up g (tree_of bs) q first.whole rest rest_below)

      pub next_refused : (after : PlainTree) (target : Names) → IsTaken g (tree_of bs) after q target first → (e : TreeError)
          → IsSizeError e (dacl_of_row g (get_or bs k b).row (get_or run (p - at) c).whole) → IsLargeError g after e
      next_refused after target h e refused =
          large_error g after (target ++ rest) (get_or bs k b).row e (taken_row g (tree_of bs) after q target first h rest rest_below ∙ row_below)
          (size_error e _ _ (next_under ∙ sym (taken_dacl g (tree_of bs) after q target first h rest)) refused)

  -- of the nodes that are made already, those beside one below that parent
  pub siblings_made : (end : ℕ) → AllWithin (λ c. is_within q (path_of_node c) ≡ true) bs at end → at + length run ≤ end
      → (path : Names) (row : NodeRow) (p : ℕ) (c : Node) → at ≤ p → p - at < length run → HoldsAt (λ d. path_of_node d ≡ up path) bs p
      → (above : Option (List Ace)) → above ≡ (get_or run (p - at) c).whole → AreMadeFor g bs path row above at run
  siblings_made end inside le path row p c low lt there above is-above j b d sibling behind in-run =
      let here : at + (j - at) ≡ j = omega arith in
      let found = within_rest q (path_of_node (get_or bs j b)) (inside j b (omega arith) (omega arith)) in
      u.wholes (j - at) b d found.0 in-run (ap (λ i. path_of_node (get_or bs i b)) here ∙ found.1)
      ∙ sym (next_under j b behind sibling.place found.0 found.1 p c low lt (λ e. there e ∙ sym (sibling.parent b)))
      ∙ ap (dacl_of_row g (get_or bs j b).row) (sym is-above) ∙ behind_sibling g (get_or bs j b).row row above (sibling.alike b)
      ∙ ap (λ (r : NodeRow). Some (behind_own r (handed_on g row above))) (sym (u.rows (j - at) b d (omega arith) in-run ∙ ap (λ i. (get_or bs i b).row) here))

  -- what it is in a tree with the first elsewhere
  pub whole_taken : (after : PlainTree) (target : Names) → IsTaken g (tree_of bs) after q target first → (k : ℕ) (b c : Node) (rest : Names) → k < length run
      → path_of_node (get_or bs (at + k) b) ≡ q ++ rest → (get_or run k c).whole ≡ dacl_at g after (target ++ rest)
  whole_taken after target h k b c rest lt is = u.wholes k b c rest lt is ∙ sym (taken_dacl g (tree_of bs) after q target first h rest)

  -- one node more
  pub under_more : (c : Node) → 0 < length run → ((b : Node) → path_of_node c ≡ path_of_node (get_or bs (at + length run) b)) → ((b : Node) → c.row ≡ (get_or bs (at + length run) b).row)
      → ((b : Node) (rest : Names) → path_of_node (get_or bs (at + length run) b) ≡ q ++ rest → c.whole ≡ dacl_below g (tree_of bs) q first.whole rest)
      → dacl_size c.whole ≤ 65535 → AreUnder g bs q at first (run ++ c ∷ [])
  under_more c some path-is row-is whole-is fits = record {
    first_is = λ d. get_or_append_left run (c ∷ []) d 0 some ∙ u.first_is d;
    paths = λ k b d lt. elim (more_cases run c d k lt) [
      | inl low ↦ ap path_of_node low.1 ∙ u.paths k b d low.0
      | inr last ↦ ap path_of_node last.1 ∙ path-is b ∙ ap (λ j. path_of_node (get_or bs (at + j) b)) (sym last.0)
    ];
    rows = λ k b d behind lt. elim (more_cases run c d k lt) [
      | inl low ↦ ap (λ (m : Node). m.row) low.1 ∙ u.rows k b d behind low.0
      | inr last ↦ ap (λ (m : Node). m.row) last.1 ∙ row-is b ∙ ap (λ j. (get_or bs (at + j) b).row) (sym last.0)
    ];
    wholes = λ k b d rest lt is. elim (more_cases run c d k lt) [
      | inl low ↦ ap (λ (m : Node). m.whole) low.1 ∙ u.wholes k b d rest low.0 is
      | inr last ↦ ap (λ (m : Node). m.whole) last.1 ∙ whole-is b rest (ap (λ j. path_of_node (get_or bs (at + j) b)) (sym last.0) ∙ is)
    ];
    fits = λ k d lt. elim (more_cases run c d k lt) [
      | inl low ↦ rw low.1 (u.fits k d low.0)
      | inr last ↦ rw last.1 fits
    ];
  }

-- the first alone
pub under_first : (g : MappingValue) (bs : List Node) (q : Names) (at : ℕ) → HoldsAt (λ c. path_of_node c ≡ q) bs at → (first : Node) → path_of_node first ≡ q
    → dacl_size first.whole ≤ 65535 → AreUnder g bs q at first (first ∷ [])
under_first g bs q at stands first path-is fits = record {
  first_is = λ c. refl;
  paths = path_first;
  rows = λ k b c behind lt. absurd (omega arith);
  wholes = whole_first;
  fits = fits_first;
}
  where
    here : (b : Node) → path_of_node (get_or bs (at + 0) b) ≡ q
    here b = ap (λ i. path_of_node (get_or bs i b)) (add-zero at) ∙ stands b

    path_first : (k : ℕ) (b c : Node) → k < length (first ∷ []) → path_of_node (get_or (first ∷ []) k c) ≡ path_of_node (get_or bs (at + k) b)
    path_first zero b c lt = path-is ∙ sym (here b)
    path_first (suc k) b c lt = absurd (omega arith)

    none_below : (rest : Names) → q ≡ q ++ rest → first.whole ≡ dacl_below g (tree_of bs) q first.whole rest
    none_below [] same = refl
    none_below (n ∷ rest) same = absurd (omega (arith, ap length same, length-append q (n ∷ rest)))

    whole_first : (k : ℕ) (b c : Node) (rest : Names) → k < length (first ∷ []) → path_of_node (get_or bs (at + k) b) ≡ q ++ rest
        → (get_or (first ∷ []) k c).whole ≡ dacl_below g (tree_of bs) q first.whole rest
    whole_first zero b c rest lt is = none_below rest (sym (here b) ∙ is)
    whole_first (suc k) b c rest lt is = absurd (omega arith)

    fits_first : (k : ℕ) (c : Node) → k < length (first ∷ []) → dacl_size (get_or (first ∷ []) k c).whole ≤ 65535
    fits_first zero c lt = fits
    fits_first (suc k) c lt = absurd (omega arith)

pub stays_more : (bs : List Node) (at : ℕ) (run : List Node) (c : Node) → ((j : ℕ) (b d : Node) → j < length run → (get_or run j d).whole ≡ (get_or bs (at + j) b).whole)
    → ((b : Node) → c.whole ≡ (get_or bs (at + length run) b).whole)
    → (j : ℕ) (b d : Node) → j < length (run ++ c ∷ []) → (get_or (run ++ c ∷ []) j d).whole ≡ (get_or bs (at + j) b).whole
stays_more bs at run c h same j b d lt = elim (more_cases run c d j lt) [
  | inl low ↦ ap (λ (n : Node). n.whole) low.1 ∙ h j b d low.0
  | inr last ↦ ap (λ (n : Node). n.whole) last.1 ∙ same b ∙ ap (λ i. (get_or bs (at + i) b).whole) (sym last.0)
]

-- ---- a step of the walk: the next node of the run, and the node of the run that holds it

pub record IsNext (g : MappingValue) (bs : List Node) (q : Names) (at : ℕ) (first : Node) (run : List Node) (k p : ℕ) (b above : Node) : Type 0 where
  pub standing : AreStanding g bs
  pub stands : HoldsAt (λ c. path_of_node c ≡ q) bs at
  pub under : AreUnder g bs q at first run
  pub count : at + length run ≡ k
  pub behind : at < k
  pub in_bs : k < length bs
  pub node : (n : Node) → b ≡ get_or bs k n
  pub inside : is_within q (path_of_node (get_or bs k b)) ≡ true
  pub in_p : p < length bs
  pub there : HoldsAt (λ c. path_of_node c ≡ up (path_of_node b)) bs p
  pub above_is : above ≡ get_or run (p - at) above

module _ (g : MappingValue) (bs : List Node) (q : Names) (at : ℕ) (first : Node) (run : List Node) (k p : ℕ) (b above : Node) (h : IsNext g bs q at first run k p b above) where
  held : (n : Node) → HoldsAt (λ c. path_of_node c ≡ up (path_of_node (get_or bs k n))) bs p
  held n d = h.there d ∙ ap (λ (m : Node). up m.path) (h.node n)

  place : (at ≤ p) × (p < k)
  place = parent_place bs h.standing.kept.order q at h.stands k b h.behind h.in_bs h.inside p h.in_p (held b)

  in_run : p - at < length run
  in_run = omega (arith, place.0, place.1, h.count)

  -- where the first has what it had, those below it have it too
  pub next_stays : ((j : ℕ) (c d : Node) → j < length run → (get_or run j d).whole ≡ (get_or bs (at + j) c).whole) → b.whole ≡ dacl_of_row g b.row above.whole
  next_stays same =
      let t = tree_of bs in
      let path = path_of_node (get_or bs k b) in
      let here : at + (p - at) ≡ p = omega (arith, place.0) in
      let is : above.whole ≡ dacl_at g t (up path) =
      ap (λ (n : Node). n.whole) h.above_is ∙ same (p - at) b above in_run ∙ ap (λ i. (get_or bs i b).whole) here
      ∙ (h.standing.kept.whole p b h.in_p).is ∙ ap (dacl_at g t) (held b b) in
      ap (λ (n : Node). n.whole) (h.node b) ∙ (h.standing.kept.whole k b h.in_bs).is
      ∙ dacl_at_up g t path (run_below_root bs h.standing.kept.order q at h.stands k b h.behind h.in_bs h.inside)
      ∙ ap (λ o. dacl_here g o (dacl_at g t (up path))) (row_here bs h.standing.kept.order k b h.in_bs)
      ∙ sym (λ i. dacl_of_row g (h.node b i).row (is i))

  pub next_made : (end : ℕ) → AllWithin (λ c. is_within q (path_of_node c) ≡ true) bs at end → k ≤ end → AreMadeFor g bs b.path b.row above.whole at run
  next_made end inside le =
      siblings_made g bs h.standing.kept.order q at h.stands first run h.under end inside (omega (arith, h.count)) b.path b.row p above place.0 in_run h.there above.whole
      (ap (λ (n : Node). n.whole) h.above_is)

  pub next_error : (e : TreeError) → IsSizeError e (dacl_of_row g b.row above.whole) → (after : PlainTree) (target : Names) → IsTaken g (tree_of bs) after q target first → IsLargeError g after e
  next_error e refused after target taken =
      let rest = within_rest q (path_of_node (get_or bs k b)) h.inside in
      next_refused g bs h.standing.kept.order q at h.stands first run h.under k b h.behind h.in_bs rest.0 rest.1 p above place.0 in_run (held b) after target taken e
      (size_error e _ _ (λ i. dacl_of_row g (h.node b i).row (h.above_is i).whole) refused)

  pub next_more : (c : Node) → path_of_node c ≡ path_of_node b → c.row ≡ b.row → c.whole ≡ dacl_of_row g b.row above.whole → dacl_size c.whole ≤ 65535 → AreUnder g bs q at first (run ++ c ∷ [])
  next_more c path-is row-is whole-is fits =
      let node : (n : Node) → b ≡ get_or bs (at + length run) n = λ n. h.node n ∙ ap (λ j. get_or bs j n) (sym h.count) in
      under_more g bs h.standing.kept.order q at h.stands first run h.under c (omega (arith, h.count, h.behind))
      (λ n. path-is ∙ ap path_of_node (node n)) (λ n. row-is ∙ ap (λ (m : Node). m.row) (node n))
      (λ n rest is.
      whole-is ∙ (λ i. dacl_of_row g (h.node n i).row (h.above_is i).whole)
      ∙ next_under g bs h.standing.kept.order q at h.stands first run h.under k n h.behind h.in_bs rest (ap (λ j. path_of_node (get_or bs j n)) (sym h.count) ∙ is) p above place.0 in_run (held n))
      fits
