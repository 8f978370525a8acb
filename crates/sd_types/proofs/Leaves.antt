-- The leaves of a node are those of its children; and which nodes an entry reaches, its node's chain says.
use Rattle.std.proofs.Common.{◌≡◌, ◌∙◌, ◌⊎◌, inl, inr, ℕ, ◌+◌, ◌<◌, ◌≤◌, zero, suc, Bool, true, false, not, ◌&&◌, ◌==◌, List, [], ◌∷◌, ◌++◌, Option, Some, None, length, drop, refl, sym, ap, arith}
use Rattle.std.proofs.lemmas.Bool.{and_from, and_parts, cases_Bool, eq-eqb, eqb-true, false≢true, not-true, or_cases}
use Rattle.std.proofs.lemmas.List.{append-nil, append_assoc, length-append}
use Rattle.std.proofs.lemmas.List.Folds.{list_any-append}
use Rattle.std.specs.List.{last_or, list_all, list_any}
use Rattle.std.specs.Option.{option_map_or}
use Rattle.sd_specialize.specs.Entry.{allows_type, is_asked}
use Rattle.sd_whole.specs.declared.types.Guid.{Guid}
use Rattle.sd_types.proofs.Chains.{IsTree, below_longer, in_line, is_below_of, is_under_of, under_is, under_itself, under_under}
use Rattle.sd_types.proofs.Lists.{all_each, any_one, clash, each_all, filter_from, filter_to, one_any, or_left, or_right, same_tests}
use Rattle.sd_types.specs.Propagation.{children, is_above, is_at, is_reached}
use Rattle.sd_types.specs.Tree.{Chain, IsNode, is_below, is_leaf, is_under, leaves_under, same_guid}

-- ---- where a chain has a type

-- a list has a bound on the lengths of its chains
pub longest : (tree : List Chain) → (b : ℕ) × ((n : Chain) → IsNode tree n → length n < b)
longest [] = (0, λ n at. absurd at)
longest (m ∷ tree) =
    let more = longest tree in (
      more.0 + (length m + 1),
      λ n at. elim at [
        | inl is ↦ let same : length m ≡ length n = ap length is in omega (arith, same)
        | inr there ↦ let less = more.1 n there in omega (arith, less)
      ],
    )

last_asked : (g : Guid) (o : Option Guid) (p : Chain) → option_map_or (λ own. same_guid own g) (last_or o p) false ≡ true
    → (option_map_or (λ own. same_guid own g) o false ≡ true) ⊎ (is_asked p g ≡ true)
last_asked g o [] h = inl h
last_asked g o (x ∷ p) h = elim (last_asked g (Some x) p h) [
  | inl here ↦ inr (or_left (same_guid x g) (is_asked p g) here)
  | inr there ↦ inr (or_right (same_guid x g) (is_asked p g) there)
]

ends_asked : (g : Guid) (p : Chain) → is_at (Some g) p ≡ true → is_asked p g ≡ true
ends_asked g p h = elim (last_asked g None p h) [
  | inl none ↦ absurd (false≢true none)
  | inr asked ↦ asked
]

asked_under : (g : Guid) (p n : Chain) → is_under p n ≡ true → is_asked p g ≡ true → is_asked n g ≡ true
asked_under g p n under h =
    ap (λ (l : Chain). is_asked l g) (under_is p n under)
    ∙ (list_any-append (λ (asked : Guid). same_guid asked g) p (drop (length p) n)
    ∙ or_left (is_asked p g) (is_asked (drop (length p) n) g) h)

-- a chain that has the type, up to it
pub record Asked (g : Guid) (n : Chain) : Type 0 where
  pub front : Chain
  pub own : Guid
  pub back : Chain
  pub is : n ≡ (front ++ own ∷ []) ++ back
  pub same : same_guid own g ≡ true

one_more : (x : Guid) (g : Guid) (n : Chain) → Asked g n → Asked g (x ∷ n)
one_more x g n a = record { front = x ∷ a.front; own = a.own; back = a.back; is = ap (λ (l : Chain). x ∷ l) a.is; same = a.same }

up_to : (g : Guid) (n : Chain) → is_asked n g ≡ true → Asked g n
up_to g [] h = absurd (false≢true h)
up_to g (x ∷ n) h = elim (or_cases (same_guid x g) (is_asked n g) h) [
  | inl here ↦ record { front = []; own = x; back = n; is = refl; same = here }
  | inr there ↦ one_more x g n (up_to g n there)
]

last_pushed : (o : Option Guid) (q : Chain) (x : Guid) → last_or o (q ++ x ∷ []) ≡ Some x
last_pushed o [] x = refl
last_pushed o (y ∷ q) x = last_pushed (Some y) q x

module _ (tree : List Chain) where
  -- ---- leaves and children

  pub leaf_from : (m n : Chain) → IsNode (leaves_under tree m) n → IsNode tree n × (is_leaf tree n ≡ true) × (is_under m n ≡ true)
  leaf_from m n at =
      let found = filter_from (λ (x : Chain). is_under m x && is_leaf tree x) tree n at in
      let parts = and_parts (is_under m n) (is_leaf tree n) found.1 in
      (found.0, parts.1, parts.0)

  pub leaf_to : (m n : Chain) → IsNode tree n → is_leaf tree n ≡ true → is_under m n ≡ true → IsNode (leaves_under tree m) n
  leaf_to m n at leaf under =
      filter_to (λ (x : Chain). is_under m x && is_leaf tree x) tree n at (and_from (is_under m n) (is_leaf tree n) under leaf)

  pub child_from : (m k : Chain) → IsNode (children tree m) k → IsNode tree k × (is_under m k ≡ true) × (length k ≡ length m + 1)
  child_from m k at =
      let found = filter_from (λ (c : Chain). is_under m c && length c == length m + 1) tree k at in
      let parts = and_parts (is_under m k) (length k == length m + 1) found.1 in
      (found.0, parts.0, eqb-true (length k) (length m + 1) parts.1)

  child_to : (m k : Chain) → IsNode tree k → is_under m k ≡ true → length k ≡ length m + 1 → IsNode (children tree m) k
  child_to m k at under long =
      filter_to (λ (c : Chain). is_under m c && length c == length m + 1) tree k at
      (and_from (is_under m k) (length k == length m + 1) under (eq-eqb (length k) (length m + 1) long))

  -- each leaf of a child is one of the node
  from_child : (m k n : Chain) → IsNode (children tree m) k → IsNode (leaves_under tree k) n → IsNode (leaves_under tree m) n
  from_child m k n at leaf =
      let l = leaf_from k n leaf in
      leaf_to m n l.0 l.1 (under_under m k n (child_from m k at).1 l.2)

  -- each node has a leaf
  pub has_leaf : (b : ℕ) → ((n : Chain) → IsNode tree n → length n < b) → (fuel : ℕ) (m : Chain) → IsNode tree m
      → b ≤ length m + fuel → (n : Chain) × IsNode (leaves_under tree m) n
  has_leaf b short zero m at far = let less = short m at in absurd (omega (arith, less, far))
  has_leaf b short (suc fuel) m at far = elim (cases_Bool (list_any (is_below m) tree)) [
    | inl some ↦
        let k = any_one (is_below m) tree some in
        let longer = below_longer m k.0 k.2 in
        let found = has_leaf b short fuel k.0 k.1 (omega (arith, longer, far)) in
        let l = leaf_from k.0 found.0 found.1 in
        (found.0, leaf_to m found.0 l.0 l.1 (under_under m k.0 found.0 (and_parts _ (is_under m k.0) k.2).1 l.2))
    | inr none ↦ (m, leaf_to m m at (ap not none) (under_itself m))
  ]

  module _ (is_tree : IsTree tree) where
    at_child : (m n : Chain) (rest : Chain) → IsNode (leaves_under tree m) n → list_any (is_below m) tree ≡ true → n ≡ m ++ rest
        → (k : Chain) × IsNode (children tree m) k × IsNode (leaves_under tree k) n
    at_child m n [] at inner is =
        let same : n ≡ m = is ∙ append-nil m in
        let leaf = not-true (list_any (is_below n) tree) (leaf_from m n at).1 in
        absurd (clash (list_any (is_below n) tree) (ap (λ (x : Chain). list_any (is_below x) tree) same ∙ inner) leaf)
    at_child m n (g ∷ rest) at inner is =
        let l = leaf_from m n at in
        let through : n ≡ (m ++ g ∷ []) ++ rest = is ∙ sym (append_assoc m (g ∷ []) rest) in
        let k_at = is_tree.closed n l.0 m g rest through in (
          m ++ g ∷ [],
          child_to m (m ++ g ∷ []) k_at (is_under_of m (m ++ g ∷ []) (g ∷ []) refl) (length-append m (g ∷ [])),
          leaf_to (m ++ g ∷ []) n l.0 l.1 (is_under_of (m ++ g ∷ []) n rest through),
        )

    by_child : (m n : Chain) → list_any (is_below m) tree ≡ true → IsNode (leaves_under tree m) n
        → (k : Chain) × IsNode (children tree m) k × IsNode (leaves_under tree k) n
    by_child m n inner at = at_child m n (drop (length m) n) at inner (under_is m n (leaf_from m n at).2)

    pub all_by_children : (p : Chain → Bool) (m : Chain) → list_any (is_below m) tree ≡ true
        → list_all p (leaves_under tree m) ≡ list_all (λ k. list_all p (leaves_under tree k)) (children tree m)
    all_by_children p m inner =
        let each : Chain → Bool = λ k. list_all p (leaves_under tree k) in
        same_tests (list_all p (leaves_under tree m)) (list_all each (children tree m))
        (λ h. each_all each (children tree m)
        (λ k at. each_all p (leaves_under tree k) (λ n leaf. all_each p (leaves_under tree m) h n (from_child m k n at leaf))))
        (λ h. each_all p (leaves_under tree m) (λ n at.
        let found = by_child m n inner at in
        all_each p (leaves_under tree found.0) (all_each each (children tree m) h found.0 found.1) n found.2))

    pub any_by_children : (p : Chain → Bool) (m : Chain) → list_any (is_below m) tree ≡ true
        → list_any p (leaves_under tree m) ≡ list_any (λ k. list_any p (leaves_under tree k)) (children tree m)
    any_by_children p m inner =
        let one : Chain → Bool = λ k. list_any p (leaves_under tree k) in
        same_tests (list_any p (leaves_under tree m)) (list_any one (children tree m))
        (λ h.
        let n = any_one p (leaves_under tree m) h in
        let found = by_child m n.0 inner n.1 in
        one_any one (children tree m) found.0 found.1 (one_any p (leaves_under tree found.0) n.0 found.2 n.2))
        (λ h.
        let k = any_one one (children tree m) h in
        let n = any_one p (leaves_under tree k.0) k.2 in
        one_any p (leaves_under tree m) n.0 (from_child m k.0 n.0 k.1 n.1) n.2)

    -- ---- what an entry reaches

    -- something is below what is above an entry's node
    pub above_is_inner : (type : Option Guid) (m : Chain) → is_above tree type m ≡ true → list_any (is_below m) tree ≡ true
    above_is_inner type m h =
        let p = any_one (λ (x : Chain). is_at type x && is_below m x) tree h in
        one_any (is_below m) tree p.0 p.1 (and_parts (is_at type p.0) (is_below m p.0) p.2).1

    -- an entry is for what is under a node that it reaches
    pub reached_is_asked : (type : Option Guid) (m n : Chain) → is_reached tree type m ≡ true → is_under m n ≡ true → allows_type n type ≡ true
    reached_is_asked None m n h under = refl
    reached_is_asked (Some g) m n h under =
        let p = any_one (λ (x : Chain). is_at (Some g) x && is_under x m) tree h in
        let parts = and_parts (is_at (Some g) p.0) (is_under p.0 m) p.2 in
        asked_under g p.0 n (under_under p.0 m n parts.1 under) (ends_asked g p.0 parts.0)

    -- where an entry is for a node, its own node is in that one's chain
    own_node : (type : Option Guid) (n : Chain) → IsNode tree n → allows_type n type ≡ true
        → (p : Chain) × IsNode tree p × (is_at type p ≡ true) × ((rest : Chain) × (n ≡ p ++ rest))
    own_node None n at h =
        let f = is_tree.filled n at in
        (f.0 ∷ [], is_tree.closed n at [] f.0 f.1 f.2, refl, (f.1, f.2))
    own_node (Some g) n at h =
        let a = up_to g n h in (
          a.front ++ a.own ∷ [],
          is_tree.closed n at a.front a.own a.back a.is,
          ap (λ o. option_map_or (λ own. same_guid own g) o false) (last_pushed None a.front a.own) ∙ a.same,
          (a.back, a.is),
        )

    -- an entry isn't for what is under a node that is neither reached nor above
    pub other_is_not_asked : (type : Option Guid) (m n : Chain) → is_reached tree type m ≡ false → is_above tree type m ≡ false
        → IsNode tree n → is_under m n ≡ true → allows_type n type ≡ false
    other_is_not_asked type m n out apart at under = elim (cases_Bool (allows_type n type)) [
      | inl asked ↦
          let p = own_node type n at asked in
          elim (in_line p.0 m p.3.0 (drop (length m) n) (sym p.3.1 ∙ under_is m n under)) [
            | inl x ↦ absurd (clash (is_reached tree type m)
                (one_any (λ (y : Chain). is_at type y && is_under y m) tree p.0 p.1
                (and_from (is_at type p.0) (is_under p.0 m) p.2 (is_under_of p.0 m x.0 x.1))) out)
            | inr x ↦ absurd (clash (is_above tree type m)
                (one_any (λ (y : Chain). is_at type y && is_below m y) tree p.0 p.1
                (and_from (is_at type p.0) (is_below m p.0) p.2 (is_below_of m p.0 x.0 x.1 x.2))) apart)
          ]
      | inr not_asked ↦ not_asked
    ]
