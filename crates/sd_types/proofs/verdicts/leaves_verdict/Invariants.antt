-- The verdict on the leaves so far, with the other ones, is that on all.
use Rattle.std.proofs.Common.{◌≡◌, ◌&&◌, drop, map}
use Rattle.std.specs.List.{filter}
use Rattle.sd_check.specs.declared.verdict.Verdict.TheVariants.{EmptyRequest}
use Rattle.sd_types.specs.Tree.{is_leaf, is_under, leaves_under}
use Rattle.sd_types.specs.Verdicts.{part_verdict, with_parts}
use Rattle.sd_types.proofs.verdicts.leaves_verdict.Given as goal

abbrev pub invariant-loop-leaf : goal.invariant-loop-leaf
invariant-loop-leaf l =
    with_parts (part_verdict l.question l.descriptor) EmptyRequest (leaves_under (map (λ other. other.items) l.chains) l.chain)
    ≡ with_parts (part_verdict l.question l.descriptor) l.verdict
    (filter (λ n. is_under l.chain n && is_leaf (map (λ other. other.items) l.chains) n)
    (map (λ other. other.items) (drop l.leaf-index l.chains)))
