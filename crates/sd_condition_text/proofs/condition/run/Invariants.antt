-- What the tokens that are left make of the stack, all make of it as it was.
use Rattle.std.proofs.Common.{drop, ◌≡◌}
use Rattle.sd_condition_text.specs.Stack.{after_tokens}
use Rattle.sd_condition_text.specs.Text.{one_part, operand_part, two_part}
use Rattle.sd_condition_text.proofs.condition.run.Given as goal

abbrev pub invariant-loop-token : goal.invariant-loop-token
invariant-loop-token l =
    after_tokens operand_part one_part two_part (drop l.token-index l.tokens) l.stack.items
    ≡ after_tokens operand_part one_part two_part l.tokens l.fn.stack.items
