-- No node so far has a fault.
use Rattle.std.proofs.Common.{◌≡◌, [], drop, take}
use Rattle.sd_types.specs.Tree.{fault_after}
use Rattle.sd_types.proofs.tree.first_fault.Given as goal

abbrev pub invariant-loop-place : goal.invariant-loop-place
invariant-loop-place l = fault_after [] l.nodes ≡ fault_after (take l.place l.nodes) (drop l.place l.nodes)
