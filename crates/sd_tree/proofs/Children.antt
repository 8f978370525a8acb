-- A node has children just where the next one stands below it.
use Rattle.sd_tree.proofs.Cited.{AreStanding, Bool, HoldsAt, Less, List, MappingValue, Names, Node, [], ap, arith, cases_Bool, cases_lt, false, false≢true, get_or, has_child, inl, inr, is_eq, is_root, is_within, length, list_any, names_cmp, not, one_path, path_of_node, refl, suc, sym, tree_of, true, up, up_before, within_between, within_up, zero, ℕ, ◌&&◌, ◌+◌, ◌<◌, ◌||◌, ◌∙◌, ◌∷◌, ◌≡◌}
use Rattle.std.specs.FinMap as finite
use Rattle.sd_tree.proofs.Places.{paths_rise}
use Rattle.sd_tree.proofs.Kept.{row_here}
use Rattle.sd_tree.proofs.CarriedOut.{key_at, keys_count}
use Rattle.sd_tree.proofs.Rebuilding.{place_before, not_before_itself}
use Rattle.sd_tree.proofs.Adding.{nothing_below_childless}

both_true : (a b : Bool) → (a && b) ≡ true → (a ≡ true) × (b ≡ true)
both_true true b h = (refl, h)
both_true false b h = absurd (false≢true h)

not_true : (a : Bool) → not a ≡ true → a ≡ false
not_true true h = absurd (false≢true h)
not_true false h = refl

-- what passes a test somewhere passes it at a place
pub place_found : {X : Type 0} (p : X → Bool) (xs : List X) → list_any p xs ≡ true → (k : ℕ) × (k < length xs) × ((d : X) → p (get_or xs k d) ≡ true)
place_found p [] h = absurd (false≢true h)
place_found p (x ∷ xs) h = elim (cases_Bool (p x)) [
  | inl pass ↦ (zero, omega arith, λ d. pass)
  | inr fail ↦
      let rest = place_found p xs (sym (ap (λ b. b || list_any p xs) fail) ∙ h) in
      (suc rest.0, omega (arith, rest.1), rest.2)
]

module _ (g : MappingValue) (bs : List Node) (standing : AreStanding g bs) (q : Names) (at : ℕ) (in' : at < length bs) (stands : HoldsAt (λ c. path_of_node c ≡ q) bs at) where
  -- a child stands behind its parent
  pub child_behind : has_child (tree_of bs) q ≡ true → (b : Node) → (k : ℕ) × (at < k) × (k < length bs) × (is_within q (path_of_node (get_or bs k b)) ≡ true)
  child_behind h b =
      let order = standing.kept.order in
      let test = λ (child : Names). not (is_root child) && is_eq (names_cmp (up child) q) in
      let found = place_found test (finite.keys (tree_of bs)) h in
      let k = found.0 in
      let in-k : k < length bs = omega (arith, found.1, keys_count bs order) in
      let path = path_of_node (get_or bs k b) in
      let passes : test path ≡ true = ap test (sym (key_at bs order k q b in-k)) ∙ found.2 q in
      let parts = both_true (not (is_root path)) (is_eq (names_cmp (up path) q)) passes in
      let parent : up path ≡ q = one_path (up path) q parts.1 in
      let low : names_cmp (path_of_node (get_or bs at b)) path ≡ Less = ap (λ p. names_cmp p path) (stands b ∙ sym parent) ∙ up_before path (not_true (is_root path) parts.0) in
      (k, place_before bs order at k b in' in-k low, in-k, ap (λ p. is_within p path) (sym parent) ∙ within_up path)

  pub childless_last : at + 1 ≡ length bs → (b : Node) → has_child (tree_of bs) q ≡ false
  childless_last last b = elim (cases_Bool (has_child (tree_of bs) q)) [
    | inl some ↦ let child = child_behind some b in absurd (omega (arith, child.1, child.2))
    | inr none ↦ none
  ]

  pub next_tells : (b : Node) → at + 1 < length bs → is_within q (path_of_node (get_or bs (at + 1) b)) ≡ has_child (tree_of bs) q
  next_tells b lt =
      let order = standing.kept.order in
      let next = path_of_node (get_or bs (at + 1) b) in
      let first : names_cmp q next ≡ Less = rw (stands b) at (paths_rise bs order at (at + 1) b (omega arith) lt) in
      elim (cases_Bool (has_child (tree_of bs) q)) [
        | inl some ↦
            let child = child_behind some b in
            (elim (cases_lt (at + 1) child.0) [
              | inl behind ↦ within_between q next (path_of_node (get_or bs child.0 b)) first (paths_rise bs order (at + 1) child.0 b behind child.2) child.3
              | inr le ↦
                  let same : at + 1 ≡ child.0 = omega (arith, child.1) in
                  ap (λ j. is_within q (path_of_node (get_or bs j b))) same ∙ child.3
            ]) ∙ sym some
        | inr none ↦
            nothing_below_childless (tree_of bs) standing.closed q next (get_or bs (at + 1) b).row none (row_here bs order (at + 1) b lt)
            (λ same. not_before_itself q next (sym same) first)
            ∙ sym none
      ]
