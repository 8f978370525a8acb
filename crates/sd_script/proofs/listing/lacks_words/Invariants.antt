-- Some path is split just where one of those that are left is.
use Rattle.sd_script.proofs.Cited.{drop, entries, is_split_below, list_any, replay, ◌≡◌}
use Rattle.sd_script.proofs.listing.lacks_words.Given as goal

abbrev pub invariant-loop-index : goal.invariant-loop-index
invariant-loop-index l =
    let nodes = entries (replay l.tree.opening l.tree.journal) in
    list_any (is_split_below l.top) (drop l.index nodes) ≡ list_any (is_split_below l.top) nodes
