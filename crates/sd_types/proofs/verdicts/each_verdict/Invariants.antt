-- The verdicts so far, before those on the other nodes, are all of them.
use Rattle.std.proofs.Common.{◌≡◌, ◌++◌, Ok, drop, map}
use Rattle.sd_specialize.specs.Specialize.{◌>>=◌}
use Rattle.sd_types.specs.Verdicts.{each_verdict, node_verdict}
use Rattle.sd_types.proofs.verdicts.each_verdict.Given as goal

abbrev pub invariant-loop-chain : goal.invariant-loop-chain
invariant-loop-chain l =
    each_verdict (node_verdict l.question l.descriptor) (map (λ chain. chain.items) l.chains)
    ≡ (each_verdict (node_verdict l.question l.descriptor) (map (λ chain. chain.items) (drop l.chain-index l.chains))
    >>= λ others. Ok (l.verdicts.items ++ others))
