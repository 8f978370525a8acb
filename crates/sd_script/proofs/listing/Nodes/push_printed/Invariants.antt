-- What is printed so far, and the lines of the nodes that are left.
use Rattle.sd_script.proofs.Cited.{drop, entries, flat_map, printed, replay, ◌++◌, ◌≡◌}
use Rattle.sd_line.specs.Printed.{tag_of}
use Rattle.sd_script.specs.Listing.{lines_below}
use Rattle.sd_script.proofs.listing.Nodes.push_printed.Given as goal

abbrev pub invariant-loop-index : goal.invariant-loop-index
invariant-loop-index l =
    let t = replay l.self.tree.opening l.self.tree.journal in
    let below = lines_below l.self.paths l.self.tree.opening.mapping t l.self.top l.self.which in
    let print = printed l.style (tag_of l.tag) in
    l.out.items ++ flat_map (λ node. print (below node)) (drop l.index (entries t)) ≡ l.initial.out.items ++ flat_map (λ node. print (below node)) (entries t)
