-- A plan that is carried out makes the nodes of the tree that it is for.
use Rattle.sd_tree.proofs.Cited.{All, All-append, All-drop, All-take, AreNodes, Exchange, Insert, IsExchange, IsInOrder, IsPlan, IsWhole, List, MappingValue, Names, Node, NodeRow, PlainTree, Plan, Remove, Set, T, [], ap, arith, carried, dacl_at, drop, drop-append_seam, drop-map, drop-set, entries_sorted, entry_of, exchanged, get_or, get_or-drop, get_or-map, get_or-take, inl, inr, is_sorted, length, length-drop, length-map, map, map-append, names_cmp, path_of_node, refl, remove, same_entries_map, set, subst, suc, sym, take, take-append-drop, take-append_seam, take-map, take-set, taken, tree_of, without_run, ℕ, ◌++◌, ◌+◌, ◌<◌, ◌∙◌, ◌∷◌, ◌≡◌, ◌≤◌, ◌⊎◌}
use Rattle.std.specs.List.{insert}
use Rattle.std.specs.FinMap as finite
use Rattle.sd_tree.proofs.Kept.{entries_kept}

-- nodes with a tree's entries are in order, and are that tree
pub order_from_entries : (bs : List Node) (t : PlainTree) → map entry_of bs ≡ finite.entries t → IsInOrder bs
order_from_entries bs t e = let P : List (Names × NodeRow) → Type 0 = λ es. T (is_sorted names_cmp es) in subst P (sym e) (entries_sorted t)

pub tree_from_entries : (bs : List Node) (t : PlainTree) → map entry_of bs ≡ finite.entries t → tree_of bs ≡ t
tree_from_entries bs t e = same_entries_map (tree_of bs) t (entries_kept bs (order_from_entries bs t e) ∙ e)

map-map : {A B C : Type 0} (f : B → C) (g : A → B) (xs : List A) → map f (map g xs) ≡ map (λ x. f (g x)) xs
map-map f g [] = refl
map-map f g (x ∷ xs) = ap (λ ys. f (g x) ∷ ys) (map-map f g xs)

-- the paths of a tree are those of its nodes
pub keys_kept : (bs : List Node) → IsInOrder bs → finite.keys (tree_of bs) ≡ map path_of_node bs
keys_kept bs h = ap (λ es. map (λ e. e.0) es) (entries_kept bs h) ∙ map-map (λ e. e.0) entry_of bs

pub key_at : (bs : List Node) → IsInOrder bs → (k : ℕ) (path : Names) (b : Node) → k < length bs
    → get_or (finite.keys (tree_of bs)) k path ≡ path_of_node (get_or bs k b)
key_at bs h k path b lt = ap (λ ps. get_or ps k path) (keys_kept bs h) ∙ get_or-map path_of_node bs k b path lt

pub keys_count : (bs : List Node) → IsInOrder bs → length (finite.keys (tree_of bs)) ≡ length bs
keys_count bs h = ap length (keys_kept bs h) ∙ length-map bs path_of_node

-- a node that is whole in one tree is so in another that has the same DACL there
pub whole_still : (g : MappingValue) (before after : PlainTree) (b : Node) → dacl_at g after (path_of_node b) ≡ dacl_at g before (path_of_node b) → IsWhole g before b → IsWhole g after b
whole_still g before after b e w = record { is = w.is ∙ sym e; fits = w.fits }

-- ---- some nodes give way to others

map-beside : {A B : Type 0} (f : A → B) (at count : ℕ) (xs : List A) → map f (without_run at count xs) ≡ without_run at count (map f xs)
map-beside f at count xs = map-append f (take at xs) (drop (at + count) xs) ∙ sym (λ i. take-map f at xs i ++ drop-map f (at + count) xs i)

map-exchanged : {A B : Type 0} (f : A → B) (from count to : ℕ) (run xs : List A) → map f (exchanged from count to run xs) ≡ exchanged from count to (map f run) (map f xs)
map-exchanged f from count to run xs =
    let rest = without_run from count xs in
    let beside : map f rest ≡ without_run from count (map f xs) = map-beside f from count xs in
    map-append f (take to rest) (run ++ drop to rest)
    ∙ ap (λ ys. map f (take to rest) ++ ys) (map-append f run (drop to rest))
    ∙ sym (λ i. take-map f to rest i ++ (map f run ++ drop-map f to rest i))
    ∙ (λ i. take to (beside i) ++ (map f run ++ drop to (beside i)))

module _ (g : MappingValue) (bs : List Node) (kept : AreNodes g bs) (after : PlainTree) (from count to : ℕ) (run : List Node) (h : IsExchange g (tree_of bs) after from count to run) where
  fits : from + count ≤ length bs
  fits = omega (arith, h.fits, keys_count bs kept.order)

  stays : (k : ℕ) (d : Node) → k < length bs → (k < from) ⊎ (from + count ≤ k) → IsWhole g after (get_or bs k d)
  stays k d lt where' =
      let same : dacl_at g after (path_of_node (get_or bs k d)) ≡ dacl_at g (tree_of bs) (path_of_node (get_or bs k d)) =
      rw (key_at bs kept.order k (path_of_node d) d lt) at (h.others k (path_of_node d) (omega (arith, keys_count bs kept.order)) where') in
      whole_still g (tree_of bs) after (get_or bs k d) same (kept.whole k d lt)

  low : All (IsWhole g after) (take from bs)
  low k d lt =
      let in' : k < from = omega (arith, taken from bs (omega (arith, fits))) in
      let P : Node → Type 0 = IsWhole g after in
      subst P (sym (get_or-take from bs k d in')) (stays k d (omega (arith, fits)) (inl in'))

  high : All (IsWhole g after) (drop (from + count) bs)
  high k d lt =
      let P : Node → Type 0 = IsWhole g after in
      subst P (sym (get_or-drop (from + count) bs k d)) (stays (from + count + k) d (omega (arith, length-drop (from + count) bs)) (inr (omega arith)))

  whole : All (IsWhole g after) (exchanged from count to run bs)
  whole =
      let rest = without_run from count bs in
      let all : All (IsWhole g after) rest = All-append (IsWhole g after) (take from bs) (drop (from + count) bs) low high in
      All-append (IsWhole g after) (take to rest) (run ++ drop to rest) (All-take (IsWhole g after) to rest all)
      (All-append (IsWhole g after) run (drop to rest) h.whole (All-drop (IsWhole g after) to rest all))

  entries_are : map entry_of (exchanged from count to run bs) ≡ finite.entries after
  entries_are = map-exchanged entry_of from count to run bs ∙ ap (exchanged from count to (map entry_of run)) (sym (entries_kept bs kept.order)) ∙ sym h.made

  pub exchange_carried : (tree_of (exchanged from count to run bs) ≡ after) × AreNodes g (exchanged from count to run bs)
  exchange_carried =
      let new = exchanged from count to run bs in
      let same = tree_from_entries new after entries_are in (
        same,
        record {
          order = order_from_entries new after entries_are;
          whole = let P : PlainTree → Type 0 = λ t. All (IsWhole g t) new in subst P (sym same) whole;
        },
      )

-- where the run takes the place of as many, the others stay where they are
pub exchanged_there : {X : Type 0} (at count : ℕ) (run xs : List X) → at ≤ length xs → exchanged at count at run xs ≡ take at xs ++ (run ++ drop (at + count) xs)
exchanged_there at count run xs le =
    let size = taken at xs le in
    let front : take at (take at xs ++ drop (at + count) xs) ≡ take at xs =
    ap (λ n. take n (take at xs ++ drop (at + count) xs)) (sym size) ∙ take-append_seam (take at xs) (drop (at + count) xs) in
    let back : drop at (take at xs ++ drop (at + count) xs) ≡ drop (at + count) xs =
    ap (λ n. drop n (take at xs ++ drop (at + count) xs)) (sym size) ∙ drop-append_seam (take at xs) (drop (at + count) xs) in
    (λ i. front i ++ (run ++ back i))

-- one that comes, one that is another, one that goes
pub inserted_there : {X : Type 0} (at : ℕ) (x : X) (xs : List X) → at ≤ length xs → exchanged at 0 at (x ∷ []) xs ≡ insert xs at x
inserted_there at x xs le = let none : at + 0 ≡ at = omega arith in exchanged_there at 0 (x ∷ []) xs le ∙ ap (λ n. take at xs ++ x ∷ drop n xs) none

pub set_there : {X : Type 0} (at : ℕ) (x : X) (xs : List X) → at < length xs → exchanged at 1 at (x ∷ []) xs ≡ set xs at x
set_there at x xs lt =
    exchanged_there at 1 (x ∷ []) xs (omega arith)
    ∙ sym (λ i. take-set xs at x i ++ drop-set xs at x lt i) ∙ take-append-drop at (set xs at x)

pub removed_there : {X : Type 0} (at : ℕ) (xs : List X) → at < length xs → exchanged at 1 at [] xs ≡ remove xs at
removed_there at xs lt = let next : at + 1 ≡ suc at = omega arith in exchanged_there at 1 [] xs (omega arith) ∙ ap (λ n. take at xs ++ drop n xs) next

pub plan_carried : (g : MappingValue) (bs : List Node) → AreNodes g bs → (after : PlainTree) (plan : Plan) → IsPlan g (tree_of bs) after plan
    → (tree_of (carried plan bs) ≡ after) × AreNodes g (carried plan bs)
plan_carried g bs kept after plan h = by_kind plan h
  where
    P : List Node → Type 0
    P cs = (tree_of cs ≡ after) × AreNodes g cs

    by_kind : (plan : Plan) → IsPlan g (tree_of bs) after plan → P (carried plan bs)
    by_kind (Insert at b) h = subst P (inserted_there at b bs (omega (arith, h.place, keys_count bs kept.order))) (exchange_carried g bs kept after at 0 at (b ∷ []) h)
    by_kind (Set at b) h = subst P (set_there at b bs (omega (arith, h.place, keys_count bs kept.order))) (exchange_carried g bs kept after at 1 at (b ∷ []) h)
    by_kind (Remove at) h = subst P (removed_there at bs (omega (arith, h.place, keys_count bs kept.order))) (exchange_carried g bs kept after at 1 at [] h)
    by_kind (Exchange from to run) h = exchange_carried g bs kept after from (length run.items) to run.items h
