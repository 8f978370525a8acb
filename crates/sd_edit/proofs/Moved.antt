-- The nodes of a tree after a move, and their DACLs.
use Rattle.sd_edit.proofs.Cited.{Ace, Container, IsClosed, IsMovable, List, MappingValue, Names, NodeRow, None, Option, PlainTree, Some, [], ap, append-nil, append_assoc, arith, cases_Bool, cond, dacl_at, dacl_below, dacl_here, dacl_of_row, entries_sorted, eq_by_cmp, false, false≢true, find, get-entries, get-from_entries, get_or, inl, inr, is_root, is_within, kind_at, length, length-append, map, moved_entry, moved_path, moved_path-append, moved_path-outside, names_cmp, names_cmp_prefix, names_cmp_total, option_map, refl, row_at, suc, sym, true, up, up-append, within-append, within_rest, within_trans, within_up, zero, ℕ, ◌++◌, ◌<◌, ◌∙◌, ◌∷◌, ◌≡◌, ◌≢◌}
use Rattle.std.specs.FinMap as finite
use Rattle.std.specs.Ordering.{is_eq}
use Rattle.sd_edit.specs.Edits.{moved}
use Rattle.sd_edit.proofs.Below.{nothing_below}
use Rattle.sd_edit.proofs.Dacls.{dacl_at_up, dacl_at_alike}
use Rattle.sd_edit.proofs.Rows.{other_path}
use Rattle.sd_edit.proofs.Sorted.{find_at}
use Rattle.sd_edit.proofs.NewRow.{up_outside, whole_below}

-- ---- what is found once each key is another

pub find_same : (f : Names → Names) (p q : Names) (es : List (Names × NodeRow))
    → ((k : ℕ) (d : Names × NodeRow) → k < length es → eq_by_cmp names_cmp p (f (get_or es k d).0) ≡ eq_by_cmp names_cmp q (get_or es k d).0)
    → find names_cmp p (map (λ e. (f e.0, e.1)) es) ≡ find names_cmp q es
find_same f p q [] h = refl
find_same f p q (e ∷ es) h = λ i. cond (h zero e (omega arith) i) (Some e.1) (find_same f p q es (λ k d lt. h (suc k) d (omega arith)) i)

pub find_gone : (f : Names → Names) (p : Names) (es : List (Names × NodeRow))
    → ((k : ℕ) (d : Names × NodeRow) → k < length es → eq_by_cmp names_cmp p (f (get_or es k d).0) ≡ false)
    → find names_cmp p (map (λ e. (f e.0, e.1)) es) ≡ None
find_gone f p [] h = refl
find_gone f p (e ∷ es) h = λ i. cond (h zero e (omega arith) i) (Some e.1) (find_gone f p es (λ k d lt. h (suc k) d (omega arith)) i)

pub entry_there : (t : PlainTree) (k : ℕ) (d : Names × NodeRow) → k < length (finite.entries t) → row_at t (get_or (finite.entries t) k d).0 ≡ Some (get_or (finite.entries t) k d).1
entry_there t k d lt = get-entries t (get_or (finite.entries t) k d).0 ∙ find_at names_cmp_total (finite.entries t) (entries_sorted t) k d lt

pub row_at-moved : (t : PlainTree) (source target q : Names) → row_at (moved t source target) q ≡ find names_cmp q (map (moved_entry source target) (finite.entries t))
unfolding moved
row_at-moved t source target q = get-from_entries names_cmp_total (map (moved_entry source target) (finite.entries t)) q

-- ---- paths apart

-- one below the top, and one that isn't
pub apart_by : (top p q : Names) → is_within top p ≡ true → is_within top q ≡ false → eq_by_cmp names_cmp p q ≡ false
apart_by top p q inside out = other_path p q (λ same. false≢true (sym out ∙ ap (is_within top) (sym same) ∙ inside))

-- what isn't below the top isn't held by what is
pub way_outside : (top q path : Names) → is_within q path ≡ true → is_within top path ≡ false → is_within top q ≡ false
way_outside top q path way out = elim (cases_Bool (is_within top q)) [
  | inl inside ↦ absurd (false≢true (sym out ∙ within_trans top q path inside way))
  | inr outside ↦ outside
]

pub within_nothing : (top : Names) → is_root top ≡ false → is_within top [] ≡ false
within_nothing [] h = absurd (false≢true (sym h))
within_nothing (n ∷ top) h = refl

-- ---- the nodes

-- a node that is neither at or below the source nor at or below the target stays
pub row_at-moved_other : (t : PlainTree) (source target q : Names) → is_within source q ≡ false → is_within target q ≡ false → row_at (moved t source target) q ≡ row_at t q
row_at-moved_other t source target q out-s out-t =
    let es = finite.entries t in
    row_at-moved t source target q
    ∙ find_same (moved_path source target) q q es (λ k d lt.
    let key = (get_or es k d).0 in
    elim (cases_Bool (is_within source key)) [
      | inl inside ↦
          let found = within_rest source key inside in
          let there : is_within target (moved_path source target key) ≡ true =
          ap (is_within target) (ap (moved_path source target) found.1 ∙ moved_path-append source target found.0) ∙ within-append target found.0 in
          turned_apart target q (moved_path source target key) there out-t ∙ sym (turned_apart source q key inside out-s)
      | inr outside ↦ ap (eq_by_cmp names_cmp q) (moved_path-outside source target key outside)
    ])
    ∙ sym (get-entries t q)
  where
    turned_apart : (top p r : Names) → is_within top r ≡ true → is_within top p ≡ false → eq_by_cmp names_cmp p r ≡ false
    turned_apart top p r inside out = other_path p r (λ same. false≢true (sym out ∙ ap (is_within top) same ∙ inside))

-- nothing stays at the source or below it
pub row_at-moved_gone : (t : PlainTree) (source target q : Names) → is_within source q ≡ true → is_within target q ≡ false → row_at (moved t source target) q ≡ None
row_at-moved_gone t source target q inside-s out-t =
    let es = finite.entries t in
    row_at-moved t source target q
    ∙ find_gone (moved_path source target) q es (λ k d lt.
    let key = (get_or es k d).0 in
    elim (cases_Bool (is_within source key)) [
      | inl inside ↦
          let found = within_rest source key inside in
          let there : is_within target (moved_path source target key) ≡ true =
          ap (is_within target) (ap (moved_path source target) found.1 ∙ moved_path-append source target found.0) ∙ within-append target found.0 in
          other_path q _ (λ same. false≢true (sym out-t ∙ ap (is_within target) same ∙ there))
      | inr outside ↦ ap (eq_by_cmp names_cmp q) (moved_path-outside source target key outside) ∙ apart_by source q key inside-s outside
    ])

module _ (t : PlainTree) (closed : IsClosed t) (source target : Names) (free : row_at t target ≡ None) where
  -- what stood below the source stands below the target
  pub row_at-moved_there : (rest : Names) → row_at (moved t source target) (target ++ rest) ≡ row_at t (source ++ rest)
  row_at-moved_there rest =
      let es = finite.entries t in
      row_at-moved t source target (target ++ rest)
      ∙ find_same (moved_path source target) (target ++ rest) (source ++ rest) es (λ k d lt.
      let key = (get_or es k d).0 in
      elim (cases_Bool (is_within source key)) [
        | inl inside ↦
            let found = within_rest source key inside in
            ap (eq_by_cmp names_cmp (target ++ rest)) (ap (moved_path source target) found.1 ∙ moved_path-append source target found.0)
            ∙ ap is_eq (names_cmp_prefix target rest found.0)
            ∙ sym (ap is_eq (names_cmp_prefix source rest found.0))
            ∙ ap (eq_by_cmp names_cmp (source ++ rest)) (sym found.1)
        | inr outside ↦
            let free-key = nothing_below t closed target key (get_or es k d).1 free (entry_there t k d lt) in
            ap (eq_by_cmp names_cmp (target ++ rest)) (moved_path-outside source target key outside)
            ∙ apart_by target (target ++ rest) key (within-append target rest) free-key
            ∙ sym (apart_by source (source ++ rest) key (within-append source rest) outside)
      ])
      ∙ sym (get-entries t (source ++ rest))

-- ---- the DACLs

-- down the names from two places with the same nodes below
pub below_shift : (g : MappingValue) (t u : PlainTree) (at to : Names) (above over : Option (List Ace)) (names : Names) → above ≡ over
    → ((name : List ℕ) (top : Names) → row_at t (at ++ name ∷ top) ≡ row_at u (to ++ name ∷ top))
    → dacl_below g t at above names ≡ dacl_below g u to over names
below_shift g t u at to above over [] e same = e
below_shift g t u at to above over (n ∷ names) e same =
    below_shift g t u (at ++ n ∷ []) (to ++ n ∷ []) (dacl_here g (row_at t (at ++ n ∷ [])) above) (dacl_here g (row_at u (to ++ n ∷ [])) over) names
    (λ i. dacl_here g (same n [] i) (e i))
    (λ name top. ap (row_at t) (append_assoc at (n ∷ []) (name ∷ top)) ∙ same n (name ∷ top) ∙ sym (ap (row_at u) (append_assoc to (n ∷ []) (name ∷ top))))

-- a DACL neither at or below the source nor at or below the target stays
pub dacl_at-moved_other : (g : MappingValue) (t : PlainTree) (source target q : Names) → is_within source q ≡ false → is_within target q ≡ false → dacl_at g (moved t source target) q ≡ dacl_at g t q
dacl_at-moved_other g t source target q out-s out-t =
    dacl_at_alike g (moved t source target) t q
    (λ top way. row_at-moved_other t source target top (way_outside source top q way out-s) (way_outside target top q way out-t))

pub longer : (xs : Names) (name : List ℕ) (top : Names) → xs ++ name ∷ top ≢ xs
longer xs name top same = absurd (omega (arith, ap length same, length-append xs (name ∷ top)))

module _ (g : MappingValue) (t : PlainTree) (closed : IsClosed t) (source target : Names) (can : IsMovable t source target) where
  up_out : is_within source (up target) ≡ false
  up_out = way_outside source (up target) target (within_up target) can.apart

  -- the target's own, by the row that stood at the source
  pub dacl_at-moved_top : (row : NodeRow) → row_at t source ≡ Some row → dacl_at g (moved t source target) target ≡ dacl_at g (finite.insert t target row) target
  dacl_at-moved_top row there =
      let t' = moved t source target in
      let found : row_at t' target ≡ Some row =
      ap (row_at t') (sym (append-nil target)) ∙ row_at-moved_there t closed source target can.place.free [] ∙ ap (row_at t) (append-nil source) ∙ there in
      dacl_at_up g t' target can.place.below_root
      ∙ ap (λ r. dacl_here g r (dacl_at g t' (up target))) found
      ∙ ap (dacl_of_row g row) (dacl_at-moved_other g t source target (up target) up_out (up_outside target can.place.below_root))
      ∙ whole_below g t target row can.place.below_root

-- ---- no gaps

pub closed_moved : (t : PlainTree) (source target : Names) → IsMovable t source target → IsClosed t → IsClosed (moved t source target)
closed_moved t source target can closed = record {
  root = kind_other [] (within_nothing source can.below_root) (within_nothing target can.place.below_root) ∙ closed.root;
  parents = held;
}
  where
    kind_other : (q : Names) → is_within source q ≡ false → is_within target q ≡ false → kind_at (moved t source target) q ≡ kind_at t q
    kind_other q out-s out-t = ap (option_map (λ (r : NodeRow). r.kind)) (row_at-moved_other t source target q out-s out-t)

    below : (rest : Names) (row : NodeRow) → row_at t (source ++ rest) ≡ Some row → kind_at (moved t source target) (up (target ++ rest)) ≡ Some Container
    below [] row there =
        ap (λ p. kind_at (moved t source target) (up p)) (append-nil target)
        ∙ kind_other (up target) (way_outside source (up target) target (within_up target) can.apart) (up_outside target can.place.below_root)
        ∙ can.place.held
    below (n ∷ rest) row there =
        ap (kind_at (moved t source target)) (up-append target (n ∷ rest) refl)
        ∙ ap (option_map (λ (r : NodeRow). r.kind)) (row_at-moved_there t closed source target can.place.free (up (n ∷ rest)))
        ∙ ap (kind_at t) (sym (up-append source (n ∷ rest) refl))
        ∙ closed.parents (source ++ n ∷ rest) row there

    held : (q : Names) (row : NodeRow) → row_at (moved t source target) q ≡ Some row → kind_at (moved t source target) (up q) ≡ Some Container
    held q row there = elim (cases_Bool (is_within target q)) [
      | inl inside ↦
          let found = within_rest target q inside in
          ap (λ p. kind_at (moved t source target) (up p)) found.1
          ∙ below found.0 row (sym (row_at-moved_there t closed source target can.place.free found.0) ∙ ap (row_at (moved t source target)) (sym found.1) ∙ there)
      | inr out-t ↦ elim (cases_Bool (is_within source q)) [
        | inl inside ↦ absurd (let gone : None ≡ Some row = sym (row_at-moved_gone t source target q inside out-t) ∙ there in cc)
        | inr out-s ↦
            kind_other (up q) (way_outside source (up q) q (within_up q) out-s) (way_outside target (up q) q (within_up q) out-t)
            ∙ closed.parents q row (sym (row_at-moved_other t source target q out-s out-t) ∙ there)
      ]
    ]
