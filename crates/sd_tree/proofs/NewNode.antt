-- The DACL of a new node, below what is stored.
use Rattle.sd_tree.proofs.Cited.{Ace, AreNodes, HoldsAt, IsSizeError, List, MappingValue, Names, Node, NodeRow, Option, TreeError, ap, dacl_at, dacl_of_row, false, get_or, insert, is_root, length, path_of_node, subst, tree_of, up, whole_below, ℕ, ◌<◌, ◌∙◌, ◌≡◌}

-- what is stored at the place of a path is its whole DACL
pub stored_whole : (g : MappingValue) (bs : List Node) → AreNodes g bs → (q : Names) (k : ℕ) (b : Node) → k < length bs → HoldsAt (λ c. path_of_node c ≡ q) bs k
    → b ≡ get_or bs k b → b.whole ≡ dacl_at g (tree_of bs) q
stored_whole g bs kept q k b lt there is-b =
    ap (λ (c : Node). c.whole) is-b ∙ (kept.whole k b lt).is ∙ ap (dacl_at g (tree_of bs)) (there b)

-- so what stands below it has that DACL above
pub below_stored : (g : MappingValue) (bs : List Node) → AreNodes g bs → (path : Names) (row : NodeRow) → is_root path ≡ false → (k : ℕ) (b : Node) → k < length bs → HoldsAt (λ c. path_of_node c ≡ up path) bs k
    → b ≡ get_or bs k b → dacl_of_row g row b.whole ≡ dacl_at g (insert (tree_of bs) path row) path
below_stored g bs kept path row below k b lt there is-b =
    ap (dacl_of_row g row) (stored_whole g bs kept (up path) k b lt there is-b) ∙ whole_below g (tree_of bs) path row below

pub size_error : (e : TreeError) (a b : Option (List Ace)) → a ≡ b → IsSizeError e a → IsSizeError e b
size_error e a b same h = let P : Option (List Ace) → Type 0 = IsSizeError e in subst P same h
