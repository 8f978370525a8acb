-- What is printed so far, and the lines of the nodes that are left.
use Rattle.sd_script.proofs.Cited.{drop, entries, flat_map, replay, ◌++◌, ◌≡◌}
use Rattle.sd_line.specs.Printed.{printed_line, tag_of}
use Rattle.sd_script.specs.Dump.{making_line}
use Rattle.sd_script.proofs.dump.Dumper.push_lines.Given as goal

abbrev pub invariant-loop-index : goal.invariant-loop-index
invariant-loop-index l =
    let nodes = entries (replay l.self.tree.now.opening l.self.tree.now.journal) in
    let print = printed_line l.style (tag_of l.tag) in
    let line = making_line l.self.notation.paths l.self.readers in
    l.out.items ++ flat_map (λ node. print (line node)) (drop l.index nodes) ≡ l.initial.out.items ++ flat_map (λ node. print (line node)) nodes
