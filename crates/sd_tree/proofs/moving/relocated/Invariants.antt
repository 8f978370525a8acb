-- The nodes so far have their new paths, of at most 64 names.
use Rattle.sd_tree.proofs.Cited.{All, Node, length, map, relocated, take, ◌≡◌, ◌≤◌}
use Rattle.sd_tree.proofs.moving.relocated.Given as goal

abbrev pub invariant-loop-node : goal.invariant-loop-node
invariant-loop-node l = record {
  run : l.run.items ≡ map (relocated l.source l.target) (take l.node-index l.nodes);
  short : All (λ (n : Node). length n.path ≤ 64) l.run.items;
}
