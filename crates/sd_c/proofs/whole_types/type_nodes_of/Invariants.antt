-- The nodes so far are those of the array so far.
use Rattle.std.proofs.Common.{take, ◌≡◌}
use Rattle.sd_c.specs.WholeTypes.{type_nodes_of}
use Rattle.sd_c.proofs.whole_types.type_nodes_of.Given as goal

abbrev pub invariant-loop-node : goal.invariant-loop-node
invariant-loop-node l = l.types.items ≡ type_nodes_of (take l.node-index l.nodes)
