use Rattle.sd_tree.proofs.Cited.{AllWithin, Err, Greater, HoldsAt, IfErr, IfOk, IsBinarySearchResult, IsInOrder, IsSearchInRange, Less, List, Names, Node, Ok, Result, length, names_cmp, path_of_node, ℕ, ◌<◌, ◌≡◌, ◌≤◌}
use Rattle.sd_path.proofs.Paths.{names_cmp_antisymmetric as names_same}
use Rattle.sd_tree.proofs.Places.{paths_searchable}
use Rattle.sd_tree.proofs.nodes.locate.Goals as goal

found_there : (ns : List Node) (q : Names) (r : Result ℕ ℕ) → IsSearchInRange r (length ns) → IsBinarySearchResult (λ n. names_cmp (path_of_node n) q) ns r
    → IfOk r (λ at. (at < length ns) × HoldsAt (λ n. path_of_node n ≡ q) ns at)
found_there ns q (Ok at) in' tied = (in', λ d. names_same _ q (tied d))
found_there ns q (Err at) in' parted = tt

absent_there : (ns : List Node) → IsInOrder ns → (q : Names) (r : Result ℕ ℕ) → IsSearchInRange r (length ns) → IsBinarySearchResult (λ n. names_cmp (path_of_node n) q) ns r
    → IfErr r (λ at. (at ≤ length ns) × AllWithin (λ n. names_cmp (path_of_node n) q ≡ Less) ns 0 at × AllWithin (λ n. names_cmp (path_of_node n) q ≡ Greater) ns at (length ns))
absent_there ns h q (Ok at) in' tied = tt
absent_there ns h q (Err at) in' parted = let p = parted (paths_searchable ns h q) in (in', p.0, p.1)

pub returns-clause-found : goal.returns-clause-found
returns-clause-found c = found_there _ _ _ c.search.ensures.bound c.search.ensures.position

pub returns-clause-absent : goal.returns-clause-absent
returns-clause-absent c = absent_there _ c.requires _ _ c.search.ensures.bound c.search.ensures.position
