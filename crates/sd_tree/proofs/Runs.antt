-- The run of nodes that stand at or below a path, and its end by a binary search.
use Rattle.sd_tree.proofs.Cited.{AllWithin, Bool, Equal, Greater, HoldsAt, IsInOrder, IsNonDecreasingBy, IsPartitionPoint, Less, List, Names, Node, Ordering, ap, arith, cases_Bool, cases_lt, cond, end_cmp, false, false≢true, get_or, get_or_default, greater_from_less, inl, inr, is_within, length, names_cmp, names_cmp_total, ordering_index, path_of_node, refl, sym, true, within_between, within_itself, ℕ, ◌<◌, ◌∙◌, ◌≡◌, ◌≤◌}
use Rattle.sd_tree.proofs.Kept.{a_node}
use Rattle.sd_tree.proofs.Places.{paths_rise}

-- behind a node that isn't in the run none is
run_ends : (bs : List Node) → IsInOrder bs → (q : Names) (at end : ℕ) → HoldsAt (λ c. path_of_node c ≡ q) bs at → at < end → (b : Node)
    → is_within q (path_of_node (get_or bs end b)) ≡ false → AllWithin (λ c. is_within q (path_of_node c) ≡ false) bs end (length bs)
run_ends bs order q at end stands lt b out k d low high = elim (cases_Bool (is_within q (path_of_node (get_or bs k d)))) [
  | inl inside ↦ elim (cases_lt end k) [
    | inl behind ↦
        let first : names_cmp q (path_of_node (get_or bs end d)) ≡ Less = rw (stands d) at (paths_rise bs order at end d lt (omega arith)) in
        let second = paths_rise bs order end k d behind high in
        let between = within_between q (path_of_node (get_or bs end d)) (path_of_node (get_or bs k d)) first second inside in
        absurd (false≢true (sym out ∙ ap (λ c. is_within q (path_of_node c)) (get_or_default bs end b d (omega arith)) ∙ between))
    | inr le ↦
        let here : k ≡ end = omega arith in
        absurd (false≢true (sym out ∙ ap (λ c. is_within q (path_of_node c)) (get_or_default bs end b d (omega arith) ∙ ap (λ j. get_or bs j d) (sym here)) ∙ inside))
  ]
  | inr outside ↦ outside
]

less_either : (b : Bool) (o : Ordering) → o ≡ Less → cond b Less o ≡ Less
less_either true o h = refl
less_either false o h = h

module _ (bs : List Node) (order : IsInOrder bs) (q : Names) (at : ℕ) (in' : at < length bs) (stands : HoldsAt (λ c. path_of_node c ≡ q) bs at) where
  at_itself : (d : Node) → is_within q (path_of_node (get_or bs at d)) ≡ true
  at_itself d = ap (is_within q) (stands d) ∙ within_itself q

  inside_less : (k : ℕ) (d : Node) → is_within q (path_of_node (get_or bs k d)) ≡ true → end_cmp q (path_of_node (get_or bs k d)) ≡ Less
  inside_less k d inside = ap (λ b. cond b Less (names_cmp (path_of_node (get_or bs k d)) q)) inside

  before_less : (k : ℕ) (d : Node) → k < at → end_cmp q (path_of_node (get_or bs k d)) ≡ Less
  before_less k d lt =
      let low : names_cmp (path_of_node (get_or bs k d)) q ≡ Less = rw (stands d) at (paths_rise bs order k at d lt in') in
      less_either (is_within q (path_of_node (get_or bs k d))) _ low

  outside_behind : (k : ℕ) (d : Node) → at ≤ k → is_within q (path_of_node (get_or bs k d)) ≡ false → at < k
  outside_behind k d le out = elim (cases_lt at k) [
    | inl lt ↦ lt
    | inr ge ↦
        let here : k ≡ at = omega arith in
        absurd (false≢true (sym out ∙ ap (λ j. is_within q (path_of_node (get_or bs j d))) here ∙ at_itself d))
  ]

  behind_greater : (k : ℕ) (d : Node) → at ≤ k → k < length bs → is_within q (path_of_node (get_or bs k d)) ≡ false → end_cmp q (path_of_node (get_or bs k d)) ≡ Greater
  behind_greater k d le lt out =
      let high : names_cmp q (path_of_node (get_or bs k d)) ≡ Less = rw (stands d) at (paths_rise bs order at k d (outside_behind k d le out) lt) in
      ap (λ b. cond b Less (names_cmp (path_of_node (get_or bs k d)) q)) out ∙ greater_from_less names_cmp_total q (path_of_node (get_or bs k d)) high

  -- so a binary search finds its way
  pub end_rises : IsNonDecreasingBy (λ b. ordering_index (end_cmp q (path_of_node b))) bs
  end_rises i j d le lt = elim (cases_Bool (is_within q (path_of_node (get_or bs i d)))) [
    | inl inside ↦ omega (arith, ap ordering_index (inside_less i d inside))
    | inr out ↦ elim (cases_lt i at) [
      | inl low ↦ omega (arith, ap ordering_index (before_less i d low))
      | inr ge ↦
          let more = run_ends bs order q at i stands (outside_behind i d ge out) d out j d le lt in
          omega (arith, ap ordering_index (behind_greater i d ge (omega arith) out), ap ordering_index (behind_greater j d (omega arith) lt more))
    ]
  ]

  -- and no node stands at the end
  pub never_at_end : (k : ℕ) → k < length bs → HoldsAt (λ b. end_cmp q (path_of_node b) ≡ Equal) bs k → ⊥
  never_at_end k lt tied =
      let d = a_node bs at in' in
      elim (cases_Bool (is_within q (path_of_node (get_or bs k d)))) [
        | inl inside ↦ let e : Less ≡ Equal = sym (inside_less k d inside) ∙ tied d in absurd cc
        | inr out ↦ elim (cases_lt k at) [
          | inl low ↦ let e : Less ≡ Equal = sym (before_less k d low) ∙ tied d in absurd cc
          | inr ge ↦ let e : Greater ≡ Equal = sym (behind_greater k d ge lt out) ∙ tied d in absurd cc
        ]
      ]

  module _ (end : ℕ) (bound : end ≤ length bs) (parted : IsPartitionPoint (λ b. end_cmp q (path_of_node b) ≡ Less) (λ b. end_cmp q (path_of_node b) ≡ Greater) bs end) where
    pub end_behind : at < end
    end_behind = elim (cases_lt at end) [
      | inl lt ↦ lt
      | inr ge ↦
          let d = a_node bs at in' in
          let e : Less ≡ Greater = sym (inside_less at d (at_itself d)) ∙ parted.1 at d ge in' in
          absurd cc
    ]

    pub end_inside : AllWithin (λ b. is_within q (path_of_node b) ≡ true) bs at end
    end_inside k d low high = elim (cases_Bool (is_within q (path_of_node (get_or bs k d)))) [
      | inl inside ↦ inside
      | inr out ↦ let e : Less ≡ Greater = sym (parted.0 k d (omega arith) high) ∙ behind_greater k d low (omega arith) out in absurd cc
    ]

    pub end_beyond : AllWithin (λ b. is_within q (path_of_node b) ≡ false) bs end (length bs)
    end_beyond k d low high = elim (cases_Bool (is_within q (path_of_node (get_or bs k d)))) [
      | inl inside ↦ let e : Less ≡ Greater = sym (inside_less k d inside) ∙ parted.1 k d low high in absurd cc
      | inr out ↦ out
    ]
