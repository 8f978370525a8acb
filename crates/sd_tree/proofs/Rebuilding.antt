-- Whole DACLs that are built anew, from a node on down the run of those below it.
use Rattle.sd_tree.proofs.Cited.{AllWithin, AreStanding, Bool, Equal, HoldsAt, IsInOrder, IsLargeError, IsSizeError, Less, List, MappingValue, Memory, Names, Node, NodeRow, PlainTree, Refused, Some, TreeError, [], ap, arith, cases_Bool, cases_lt, contains_key-keys, dacl_at, dacl_at_outside, dacl_size, eq_by_cmp, false, get_or, greater_from_less, has_large_dacl, inl, inr, insert, is_root, is_some, is_within, keys, length, list_any, names_cmp, names_cmp_total, nat_lt, nat_tests, one_path, path_of_node, root_is_empty, row_at, row_at-insert_other, same_or_other, subst, sym, tied_itself, tree_of, true, up, up_before, up_within, within_before, ℕ, ◌<◌, ◌||◌, ◌∙◌, ◌∷◌, ◌≡◌, ◌≢◌, ◌≤◌, ◌⊎◌}
use Rattle.sd_tree.proofs.Places.{paths_rise}
use Rattle.sd_tree.proofs.Kept.{row_here}

-- ---- places and the order of paths

-- no path is before itself
pub not_before_itself : (p q : Names) → p ≡ q → names_cmp p q ≡ Less → ⊥
not_before_itself p q same low =
    let tied : names_cmp p q ≡ Equal = ap (names_cmp p) (sym same) ∙ tied_itself names_cmp_total p in
    absurd cc

pub not_both : (p q : Names) → names_cmp p q ≡ Less → names_cmp q p ≡ Less → ⊥
not_both p q low high = let turned = greater_from_less names_cmp_total p q low in absurd cc

pub place_before : (bs : List Node) → IsInOrder bs → (i j : ℕ) (b : Node) → i < length bs → j < length bs
    → names_cmp (path_of_node (get_or bs i b)) (path_of_node (get_or bs j b)) ≡ Less → i < j
place_before bs order i j b in-i in-j low = elim (cases_lt i j) [
  | inl lt ↦ lt
  | inr ge ↦ elim (cases_lt j i) [
    | inl gt ↦ absurd (not_both (path_of_node (get_or bs i b)) (path_of_node (get_or bs j b)) low (paths_rise bs order j i b gt in-i))
    | inr le ↦
        let same : i ≡ j = omega arith in
        absurd (not_before_itself (path_of_node (get_or bs i b)) (path_of_node (get_or bs j b)) (ap (λ k. path_of_node (get_or bs k b)) same) low)
  ]
]

pub place_same : (bs : List Node) → IsInOrder bs → (i j : ℕ) (b : Node) → i < length bs → j < length bs
    → path_of_node (get_or bs i b) ≡ path_of_node (get_or bs j b) → i ≡ j
place_same bs order i j b in-i in-j same = elim (cases_lt i j) [
  | inl lt ↦ absurd (not_before_itself _ _ same (paths_rise bs order i j b lt in-j))
  | inr ge ↦ elim (cases_lt j i) [
    | inl gt ↦ absurd (not_before_itself _ _ (sym same) (paths_rise bs order j i b gt in-i))
    | inr le ↦ omega arith
  ]
]

-- ---- a node of the run behind its first, and what holds it
module _ (bs : List Node) (order : IsInOrder bs) (q : Names) (at : ℕ) (stands : HoldsAt (λ c. path_of_node c ≡ q) bs at)
    (k : ℕ) (b : Node) (behind : at < k) (in' : k < length bs) (inside : is_within q (path_of_node (get_or bs k b)) ≡ true) where
  pub first_before : names_cmp q (path_of_node (get_or bs k b)) ≡ Less
  first_before = rw (stands b) at (paths_rise bs order at k b behind in')

  pub run_other : path_of_node (get_or bs k b) ≢ q
  run_other same = not_before_itself q _ (sym same) first_before

  pub run_below_root : is_root (path_of_node (get_or bs k b)) ≡ false
  run_below_root = elim (cases_Bool (is_root (path_of_node (get_or bs k b)))) [
    | inl root ↦
        let empty = root_is_empty _ root in
        let first : names_cmp q [] ≡ Less = ap (names_cmp q) (sym empty) ∙ first_before in
        absurd (none_before_root q first)
    | inr below ↦ below
  ]
    where
      none_before_root : (p : Names) → names_cmp p [] ≡ Less → ⊥
      none_before_root [] low = absurd cc
      none_before_root (n ∷ p) low = absurd cc

  pub parent_place : (p : ℕ) → p < length bs → HoldsAt (λ c. path_of_node c ≡ up (path_of_node (get_or bs k b))) bs p → (at ≤ p) × (p < k)
  parent_place p in-p there =
      let path = path_of_node (get_or bs k b) in
      let low : names_cmp (path_of_node (get_or bs p b)) path ≡ Less = rw (there b) (up_before path run_below_root) in
      let before' = place_before bs order p k b in-p in' low in
      elim (same_or_other (up path) q) [
        | inl same ↦ (omega (arith, place_same bs order at p b (omega arith) in-p (stands b ∙ sym same ∙ sym (there b))), before')
        | inr other ↦
            let above = within_before q (up path) (up_within q path inside run_other) other in
            let low-q : names_cmp (path_of_node (get_or bs at b)) (path_of_node (get_or bs p b)) ≡ Less = rw (stands b, there b) above in
            (omega (arith, place_before bs order at p b (omega arith) in-p low-q), before')
      ]

-- ---- outside of the run

module _ (g : MappingValue) (bs : List Node) (standing : AreStanding g bs) (q : Names) (at : ℕ) (in' : at < length bs) (stands : HoldsAt (λ c. path_of_node c ≡ q) bs at) (row : NodeRow) where
  -- a DACL stays
  pub outside_stays : (end : ℕ) → AllWithin (λ c. is_within q (path_of_node c) ≡ false) bs end (length bs) → (k : ℕ) (b : Node) → k < length bs → (k < at) ⊎ (end ≤ k)
      → dacl_at g (insert (tree_of bs) q row) (path_of_node (get_or bs k b)) ≡ dacl_at g (tree_of bs) (path_of_node (get_or bs k b))
  outside_stays end beyond k b lt where' =
      let path = path_of_node (get_or bs k b) in
      let out : is_within q path ≡ false = elim where' [
        | inl low ↦ elim (cases_Bool (is_within q path)) [
          | inl inside ↦
              let before' : names_cmp path q ≡ Less = rw (stands b) at (paths_rise bs standing.kept.order k at b low in') in
              absurd (elim (same_or_other path q) [
                | inl same ↦ not_before_itself path q same before'
                | inr other ↦ not_both path q before' (within_before q path inside other)
              ])
          | inr outside ↦ outside
        ]
        | inr high ↦ beyond k b high lt
      ] in
      dacl_at_outside g (insert (tree_of bs) q row) (tree_of bs) q path (λ p other. row_at-insert_other (tree_of bs) q p row other) out

-- ---- a DACL that takes too many bytes

pub found_by : {X : Type 0} (p r : X → Bool) → ((x : X) → r x ≡ true → p x ≡ true) → (xs : List X) → list_any r xs ≡ true → list_any p xs ≡ true
found_by p r implies [] h = h
found_by p r implies (x ∷ xs) h = elim (cases_Bool (r x)) [
  | inl yes' ↦ ap (λ b. b || list_any p xs) (implies x yes')
  | inr no' ↦ elim (cases_Bool (p x)) [
    | inl pass ↦ ap (λ b. b || list_any p xs) pass
    | inr fail ↦ ap (λ b. b || list_any p xs) fail ∙ found_by p r implies xs (sym (ap (λ b. b || list_any r xs) no') ∙ h)
  ]
]

pub large_found : (g : MappingValue) (t : PlainTree) (q : Names) (row : NodeRow) → row_at t q ≡ Some row → 65535 < dacl_size (dacl_at g t q) → has_large_dacl g t ≡ true
large_found g t q row there large =
    found_by (λ path. nat_lt 65535 (dacl_size (dacl_at g t path))) (eq_by_cmp names_cmp q)
    (λ path same.
    let is : q ≡ path = one_path q path same in
    let big : 65535 < dacl_size (dacl_at g t path) = subst (λ (p : Names). 65535 < dacl_size (dacl_at g t p)) is large in
    grind (arith, nat_tests))
    (keys t) (sym (contains_key-keys t q) ∙ ap is_some there)

pub large_error : (g : MappingValue) (t : PlainTree) (q : Names) (row : NodeRow) (e : TreeError) → row_at t q ≡ Some row → IsSizeError e (dacl_at g t q) → IsLargeError g t e
large_error g t q row (Refused r) there h = (h.0, large_found g t q row there h.1)
large_error g t q row Memory there h = tt

-- what stands at a place has a row
pub row_there : (bs : List Node) → IsInOrder bs → (q : Names) (at : ℕ) → at < length bs → HoldsAt (λ c. path_of_node c ≡ q) bs at → (row : NodeRow) × (row_at (tree_of bs) q ≡ Some row)
row_there [] order q at in' stands = absurd (omega arith)
row_there (b ∷ bs) order q at in' stands = ((get_or (b ∷ bs) at b).row, ap (row_at (tree_of (b ∷ bs))) (sym (stands b)) ∙ row_here (b ∷ bs) order at b in')
