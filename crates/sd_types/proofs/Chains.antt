-- Chains that begin as others, and the nodes of a list: what is above a node is a node too.
use Rattle.std.proofs.Common.{◌≡◌, ◌∙◌, ◌⊎◌, inl, inr, ℕ, suc, ◌+◌, ◌<◌, true, nat_lt, List, [], ◌∷◌, ◌++◌, length, take, drop, refl, sym, ap, arith}
use Rattle.std.proofs.lemmas.Bool.{and_from, and_parts, lt-ltb, ltb-true}
use Rattle.std.proofs.lemmas.List.{append-nil, append_assoc, length-append, take-append-drop}
use Rattle.std.proofs.lemmas.Slice.Eq.{bytes_eq-Decides, starts_is}
use Rattle.std.specs.Bool.{Decides}
use Rattle.sd_whole.specs.declared.types.Guid.{Guid}
use Rattle.sd_types.specs.Tree.{Chain, IsNode, chains_after, chains_of, is_below, is_under, same_guid}
use Rattle.sd_types.specs.declared.tree.TypeNode.{TypeNode}

pub same_guid_decides : (a b : Guid) → Decides (same_guid a b) (a ≡ b)
same_guid_decides a b = (
  (λ h. let bytes = (bytes_eq-Decides a.bytes b.bytes).0 h in λ i. record { bytes = bytes i }),
  (λ is. (bytes_eq-Decides a.bytes b.bytes).1 (ap (λ (g : Guid). g.bytes) is)),
)

pub under_is : (m n : Chain) → is_under m n ≡ true → n ≡ m ++ drop (length m) n
under_is m n = (starts_is same_guid_decides n m (is_under m n) refl).0

pub is_under_of : (m n rest : Chain) → n ≡ m ++ rest → is_under m n ≡ true
is_under_of m n = (starts_is same_guid_decides n m (is_under m n) refl).1

pub under_itself : (m : Chain) → is_under m m ≡ true
under_itself m = is_under_of m m [] (sym (append-nil m))

pub under_under : (a b c : Chain) → is_under a b ≡ true → is_under b c ≡ true → is_under a c ≡ true
under_under a b c h k =
    is_under_of a c (drop (length a) b ++ drop (length b) c)
    (under_is b c k ∙ (ap (λ (x : Chain). x ++ drop (length b) c) (under_is a b h) ∙ append_assoc a (drop (length a) b) (drop (length b) c)))

pub is_below_of : (m n : Chain) (g : Guid) (rest : Chain) → n ≡ m ++ g ∷ rest → is_below m n ≡ true
is_below_of m n g rest is =
    let size : length n ≡ length m + suc (length rest) = ap length is ∙ length-append m (g ∷ rest) in
    and_from (nat_lt (length m) (length n)) (is_under m n) (lt-ltb (length m) (length n) (omega (arith, size))) (is_under_of m n (g ∷ rest) is)

pub below_longer : (m n : Chain) → is_below m n ≡ true → length m < length n
below_longer m n h = ltb-true (length m) (length n) (and_parts (nat_lt (length m) (length n)) (is_under m n) h).0

-- ---- two chains that begin a third

cancel : (m a b : Chain) → m ++ a ≡ m ++ b → a ≡ b
cancel [] a b h = h
cancel (x ∷ m) a b h = let tails : m ++ a ≡ m ++ b = cc h in cancel m a b tails

-- the second goes on where the first ends, or the first goes on where the second does
abbrev pub AreInLine : Chain → Chain → Type 0
AreInLine p m = ((r : Chain) × (m ≡ p ++ r)) ⊎ ((g : Guid) × (r : Chain) × (p ≡ m ++ g ∷ r))

behind : (a b : Guid) (p m : Chain) → a ≡ b → AreInLine p m → AreInLine (a ∷ p) (b ∷ m)
behind a b p m same (inl (r, is)) = inl (r, cc (same, is))
behind a b p m same (inr (g, r, is)) = inr (g, r, cc (same, is))

pub in_line : (p m r s : Chain) → p ++ r ≡ m ++ s → AreInLine p m
in_line [] m r s h = inl (m, refl)
in_line (a ∷ p) [] r s h = inr (a, p, refl)
in_line (a ∷ p) (b ∷ m) r s h =
    let heads : a ≡ b = cc h in
    let tails : p ++ r ≡ m ++ s = cc h in
    behind a b p m heads (in_line p m r s tails)

-- ---- the nodes of a list

no_more : (g h : Guid) (r rest : Chain) → g ∷ [] ≡ h ∷ (r ++ rest) → h ∷ r ≡ g ∷ []
no_more g h [] rest is = cc is
no_more g h (x ∷ r) rest is = let none : [] ≡ x ∷ (r ++ rest) = cc is in absurd (cc none)

-- what a chain begins with is what those before it begin with, or the chain
abbrev Begins : Chain → Chain → Chain → Type 0
Begins before chain p = ((t : Chain) × (before ≡ p ++ t)) ⊎ (chain ≡ p)

begins : (before : Chain) (level : ℕ) (g : Guid) (p rest : Chain) → take level before ++ g ∷ [] ≡ p ++ rest
    → Begins before (take level before ++ g ∷ []) p
begins before level g p rest h =
    elim (in_line p (take level before) rest (g ∷ []) (sym h)) [
      | inl x ↦ inl (
        x.0 ++ drop level before,
        sym (take-append-drop level before)
            ∙ (ap (λ (l : Chain). l ++ drop level before) x.1 ∙ append_assoc p x.0 (drop level before)),
      )
      | inr x ↦ inr (
          let top = take level before in
          let whole : top ++ g ∷ [] ≡ top ++ (x.0 ∷ (x.1 ++ rest)) =
          h ∙ (ap (λ (l : Chain). l ++ rest) x.2 ∙ append_assoc top (x.0 ∷ x.1) rest) in
          let one = no_more g x.0 x.1 rest (cancel top (g ∷ []) (x.0 ∷ (x.1 ++ rest)) whole) in
          sym (x.2 ∙ ap (λ (l : Chain). top ++ l) one))
    ]

begun : (before : Chain) (level : ℕ) (g : Guid) (nodes : List TypeNode) (p : Chain) → Begins before (take level before ++ g ∷ []) p
    → ((t : Chain) × (before ≡ p ++ t)) ⊎ IsNode ((take level before ++ g ∷ []) ∷ chains_after (take level before ++ g ∷ []) nodes) p
begun before level g nodes p (inl x) = inl x
begun before level g nodes p (inr is) = inr (inl is)

above_in : (before : Chain) (nodes : List TypeNode) (n : Chain) → IsNode (chains_after before nodes) n → (p rest : Chain) → n ≡ p ++ rest
    → ((t : Chain) × (before ≡ p ++ t)) ⊎ IsNode (chains_after before nodes) p
above_in before [] n at p rest is = absurd at
above_in before (node ∷ nodes) n (inl same) p rest is =
    begun before node.level node.guid nodes p (begins before node.level node.guid p rest (same ∙ is))
above_in before (node ∷ nodes) n (inr at) p rest is =
    elim (above_in (take node.level before ++ node.guid ∷ []) nodes n at p rest is) [
      | inl x ↦ begun before node.level node.guid nodes p (begins before node.level node.guid p x.0 x.1)
      | inr there ↦ inr (inr there)
    ]

pub filled_push : (m : Chain) (g : Guid) → (a : Guid) × (q : Chain) × (m ++ g ∷ [] ≡ a ∷ q)
filled_push [] g = (g, [], refl)
filled_push (a ∷ m) g = (a, m ++ g ∷ [], refl)

filled_after : (before : Chain) (nodes : List TypeNode) (n : Chain) → IsNode (chains_after before nodes) n → (a : Guid) × (q : Chain) × (n ≡ a ∷ q)
filled_after before [] n at = absurd at
filled_after before (node ∷ nodes) n (inl is) =
    let x = filled_push (take node.level before) node.guid in (x.0, x.1, sym is ∙ x.2)
filled_after before (node ∷ nodes) n (inr at) = filled_after (take node.level before ++ node.guid ∷ []) nodes n at

-- the chains are those of a tree: each has a type, and what a chain begins with is a chain too
pub record IsTree (tree : List Chain) : Type 0 where
  pub filled : (n : Chain) → IsNode tree n → (a : Guid) × (q : Chain) × (n ≡ a ∷ q)
  pub closed : (n : Chain) → IsNode tree n → (p : Chain) (g : Guid) (rest : Chain) → n ≡ (p ++ g ∷ []) ++ rest
      → IsNode tree (p ++ g ∷ [])

nothing_before : (p : Chain) (g : Guid) (t : Chain) → [] ≡ (p ++ g ∷ []) ++ t → ⊥
nothing_before [] g t h = absurd (cc h)
nothing_before (a ∷ p) g t h = absurd (cc h)

pub is_tree : (nodes : List TypeNode) → IsTree (chains_of nodes)
is_tree nodes = record {
  filled = filled_after [] nodes;
  closed = λ n at p g rest is. elim (above_in [] nodes n at (p ++ g ∷ []) rest is) [
    | inl x ↦ absurd (nothing_before p g x.0 x.1)
    | inr there ↦ there
  ];
}
