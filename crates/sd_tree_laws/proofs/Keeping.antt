-- That protecting a node with what it had inherited lets nobody in, at the node and below it.
use Rattle.sd_tree_laws.proofs.Cited.{Ace, KeepingLetsNobodyIn, List, MappingValue, Names, NodeRow, None, Option, PlainTree, Some, TokenValue, [], ap, append-nil, ap₂, below_alike, canonical_order, cases_Bool, changed, changed_where, dacl_at, dacl_at-append, dacl_at_here, dacl_at_outside, dacl_below, dacl_here, dacl_over, explicit_entries, false, granted_by_row, inl, inr, is_granted_at, is_within, keeping, names_cmp_antisymmetric, names_cmp_total, option_map, refl, row_at, row_at-changed_other, row_at-changed_same, same_map, same_or_other, sym, true, within_rest, ℕ, ◌++◌, ◌∙◌, ◌∷◌, ◌≡◌, ◌≢◌}
use Rattle.sd_tree_laws.proofs.Reach.{outside_is_other}
use Rattle.sd_tree_laws.proofs.Reordered.{AreReordered, node_hands_on, here, down, reordered_grants, node_grants}

longer : (at : Names) (name : List ℕ) (names : Names) → at ++ name ∷ names ≢ at
longer [] name names e = cc
longer (n ∷ at) name names e = longer at name names cc

granted_alike : (g : MappingValue) (token : TokenValue) (b : ℕ) (after before : Option (List Ace)) (o : Option NodeRow) → AreReordered after before
    → granted_by_row g after token b o ≡ true → granted_by_row g before token b o ≡ true
granted_alike g token b after before None r h = h
granted_alike g token b after before (Some row) r h = reordered_grants (Some row.owner) g token after before b r h

module _ (g : MappingValue) (t : PlainTree) (top : Names) (row : NodeRow) (es : List Ace) (there : row_at t top ≡ Some row) (listed : dacl_at g t top ≡ Some es) where
  abbrev kept_tree : PlainTree
  kept_tree = changed t top (keeping (dacl_at g t top))

  abbrev kept_list : List Ace
  kept_list = canonical_order (explicit_entries es)

  row_kept : row_at kept_tree top ≡ Some (keeping (Some es) row)
  row_kept = row_at-changed_same t top (keeping (dacl_at g t top)) ∙ ap₂ (λ d o. option_map (keeping d) o) listed there

  other_row : (q : Names) → q ≢ top → row_at kept_tree q ≡ row_at t q
  other_row q other = row_at-changed_other t top q (keeping (dacl_at g t top)) other

  dacl_kept : dacl_at g kept_tree top ≡ Some kept_list
  dacl_kept =
      dacl_at_here g kept_tree top ∙ ap (λ o. dacl_here g o (dacl_over g kept_tree top)) row_kept
      ∙ ap Some (append-nil kept_list)

  at_the_node : (token : TokenValue) (b : ℕ) → is_granted_at g kept_tree top token b ≡ true → is_granted_at g t top token b ≡ true
  at_the_node token b h =
      ap₂ (λ d o. granted_by_row g d token b o) listed there
      ∙ node_grants (Some row.owner) g token es b (sym (ap₂ (λ d o. granted_by_row g d token b o) dacl_kept row_kept) ∙ h)

  below_the_node : (n : List ℕ) (names : Names) (token : TokenValue) (b : ℕ)
      → is_granted_at g kept_tree (top ++ n ∷ names) token b ≡ true → is_granted_at g t (top ++ n ∷ names) token b ≡ true
  below_the_node n names token b h =
      let path = top ++ n ∷ names in
      let o = row_at t (top ++ n ∷ []) in
      let new : dacl_at g kept_tree path ≡ dacl_below g t top (Some kept_list) (n ∷ names) =
      dacl_at-append g kept_tree top (n ∷ names) ∙ ap (λ d. dacl_below g kept_tree top d (n ∷ names)) dacl_kept
      ∙ below_alike g kept_tree t top (Some kept_list) (n ∷ names) (λ name q within. other_row (top ++ name ∷ q) (longer top name q)) in
      let old : dacl_at g t path ≡ dacl_below g t top (Some es) (n ∷ names) =
      dacl_at-append g t top (n ∷ names) ∙ ap (λ d. dacl_below g t top d (n ∷ names)) listed in
      ap (λ d. granted_by_row g d token b (row_at t path)) old
      ∙ granted_alike g token b (dacl_below g t top (Some kept_list) (n ∷ names)) (dacl_below g t top (Some es) (n ∷ names)) (row_at t path)
      (down g t (top ++ n ∷ []) (dacl_here g o (Some kept_list)) (dacl_here g o (Some es)) names (here g o (Some kept_list) (Some es) (node_hands_on es)))
      (sym (ap₂ (λ d r. granted_by_row g d token b r) new (other_row path (longer top n names))) ∙ h)

  within_the_node : (path : Names) (token : TokenValue) (b : ℕ) (rest : Names) → path ≡ top ++ rest
      → is_granted_at g kept_tree path token b ≡ true → is_granted_at g t path token b ≡ true
  within_the_node path token b [] is h =
      let same : path ≡ top = is ∙ append-nil top in
      ap (λ p. is_granted_at g t p token b) same ∙ at_the_node token b (sym (ap (λ p. is_granted_at g kept_tree p token b) same) ∙ h)
  within_the_node path token b (n ∷ names) is h =
      ap (λ p. is_granted_at g t p token b) is ∙ below_the_node n names token b (sym (ap (λ p. is_granted_at g kept_tree p token b) is) ∙ h)

  outside_the_node : (path : Names) (token : TokenValue) (b : ℕ) → is_within top path ≡ false
      → is_granted_at g kept_tree path token b ≡ true → is_granted_at g t path token b ≡ true
  outside_the_node path token b outside h =
      let same_dacl = dacl_at_outside g kept_tree t top path other_row outside in
      sym (ap₂ (λ d r. granted_by_row g d token b r) same_dacl (other_row path (outside_is_other top path outside))) ∙ h

  nobody_in : (path : Names) (token : TokenValue) (b : ℕ) → is_granted_at g kept_tree path token b ≡ true → is_granted_at g t path token b ≡ true
  nobody_in path token b h = elim (cases_Bool (is_within top path)) [
    | inl within ↦ let rest = within_rest top path within in within_the_node path token b rest.0 rest.1 h
    | inr outside ↦ outside_the_node path token b outside h
  ]

-- where the DACL is null, or nothing stands at the path, the tree stays
null_stays : (g : MappingValue) (t : PlainTree) (top : Names) → dacl_at g t top ≡ None → changed t top (keeping (dacl_at g t top)) ≡ t
null_stays g t top null =
    same_map names_cmp_total names_cmp_antisymmetric (changed t top (keeping (dacl_at g t top))) t
    (λ q. elim (same_or_other q top) [
      | inl same ↦
          ap (row_at (changed t top (keeping (dacl_at g t top)))) same ∙ row_at-changed_same t top (keeping (dacl_at g t top))
          ∙ ap (λ d. option_map (keeping d) (row_at t top)) null ∙ as_it_was (row_at t top) ∙ ap (row_at t) (sym same)
      | inr other ↦ row_at-changed_other t top q (keeping (dacl_at g t top)) other
    ])
  where
    as_it_was : (o : Option NodeRow) → option_map (keeping None) o ≡ o
    as_it_was None = refl
    as_it_was (Some row) = refl

by_node : (g : MappingValue) (t : PlainTree) (top path : Names) (token : TokenValue) (b : ℕ) (d : Option (List Ace)) (o : Option NodeRow)
    → dacl_at g t top ≡ d → row_at t top ≡ o
    → is_granted_at g (changed t top (keeping (dacl_at g t top))) path token b ≡ true → is_granted_at g t path token b ≡ true
by_node g t top path token b None o null there h =
    sym (ap (λ u. is_granted_at g u path token b) (null_stays g t top null)) ∙ h
by_node g t top path token b (Some es) None listed there h =
    sym (ap (λ r. is_granted_at g (changed_where t top (keeping (dacl_at g t top)) r) path token b) there) ∙ h
by_node g t top path token b (Some es) (Some row) listed there h = nobody_in g t top row es there listed path token b h

pub keeping_lets_nobody_in : KeepingLetsNobodyIn
keeping_lets_nobody_in g t top path token b h = by_node g t top path token b (dacl_at g t top) (row_at t top) refl refl h
