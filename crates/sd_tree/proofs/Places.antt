-- The nodes of a tree by their places.
use Rattle.sd_tree.proofs.Cited.{IsInOrder, IsNonDecreasingBy, IsSortedBy, Less, List, Names, Node, ap, arith, entry_of, get_or, greater_from_less, is_lt, length, length-map, map, names_cmp, ordering_index, path_of_node, rises, searchable_from_sorted, ℕ, ◌+◌, ◌<◌, ◌≡◌}
use Rattle.std.proofs.Math.ListN.{get_or-map as get_or-mapped}
use Rattle.sd_path.proofs.Paths.{names_cmp_total as names_total}

-- the paths rise from place to place
pub paths_rise : (bs : List Node) → IsInOrder bs → (i j : ℕ) (b : Node) → i < j → j < length bs → names_cmp (path_of_node (get_or bs i b)) (path_of_node (get_or bs j b)) ≡ Less
paths_rise bs h i j b lt in' =
    let at : names_cmp (get_or (map entry_of bs) i (entry_of b)).0 (get_or (map entry_of bs) j (entry_of b)).0 ≡ Less =
    rises names_total (map entry_of bs) h i j (entry_of b) lt (omega (arith, length-map bs entry_of)) in
    rw (get_or-mapped entry_of bs i b, get_or-mapped entry_of bs j b) at at

paths_sorted : (bs : List Node) → IsInOrder bs → IsSortedBy (λ a b. is_lt (names_cmp (path_of_node a) (path_of_node b))) bs
paths_sorted bs h k d low in' = ap is_lt (greater_from_less names_total (path_of_node (get_or bs k d)) (path_of_node (get_or bs (k + 1) d)) (paths_rise bs h k (k + 1) d (omega arith) in'))

-- so a binary search finds its way
pub paths_searchable : (bs : List Node) → IsInOrder bs → (q : Names) → IsNonDecreasingBy (λ b. ordering_index (names_cmp (path_of_node b) q)) bs
paths_searchable bs h q = searchable_from_sorted names_total path_of_node bs q (paths_sorted bs h)
