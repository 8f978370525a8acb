-- The chains so far, before those of the other nodes, are all of them.
use Rattle.std.proofs.Common.{◌≡◌, ◌++◌, drop, map}
use Rattle.sd_types.specs.Tree.{chains_after, chains_of}
use Rattle.sd_types.proofs.tree.TypeTree.new.Given as goal

abbrev pub invariant-loop-node : goal.invariant-loop-node
invariant-loop-node l =
    chains_of l.nodes ≡ map (λ chain. chain.items) l.chains.items ++ chains_after l.chain.items (drop l.node-index l.nodes)
