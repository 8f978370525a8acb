-- What the entries so far hand on stands behind what stood there.
use Rattle.std.proofs.Common.{◌≡◌, ◌++◌, take}
use Rattle.std.specs.List.{flat_map}
use Rattle.sd_inheritance.specs.Inheritance.{pass_on}
use Rattle.sd_inheritance.proofs.rule.hand_on.Given as goal

abbrev pub invariant-loop-entry : goal.invariant-loop-entry
invariant-loop-entry l =
    l.handed.items ≡ l.initial.handed.items ++ flat_map (pass_on l.mapping l.heir.kind l.heir.owner.now l.heir.group.now) (take l.entry-index l.above)
