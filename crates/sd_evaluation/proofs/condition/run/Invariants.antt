-- What the tokens that are left make of the stack, all make of it as it was.
use Rattle.std.proofs.Common.{drop, map, ◌≡◌}
use Rattle.sd_condition_text.specs.Stack.{after_tokens}
use Rattle.sd_evaluation.specs.Evaluation.{Leaf, over_one, over_two}
use Rattle.sd_evaluation.specs.Seen.{seen_part}
use Rattle.sd_evaluation.proofs.condition.run.Given as goal

abbrev pub invariant-loop-token : goal.invariant-loop-token
invariant-loop-token l =
    after_tokens Leaf (over_one l.facts l.kind l.pass) (over_two l.facts l.kind) (drop l.token-index l.tokens)
    (map seen_part l.stack.items)
    ≡ after_tokens Leaf (over_one l.facts l.kind l.pass) (over_two l.facts l.kind) l.tokens
    (map seen_part l.fn.stack.items)
