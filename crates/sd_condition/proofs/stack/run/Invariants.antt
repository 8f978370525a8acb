-- What the tokens that are left make of the stack, all make of it as it was.
use Rattle.sd_condition.proofs.Cited.{after_tokens, drop, ◌≡◌}
use Rattle.sd_condition.proofs.stack.run.Given as goal

abbrev pub invariant-loop-token : goal.invariant-loop-token
invariant-loop-token l = after_tokens (drop l.token-index l.tokens) l.stack.items ≡ after_tokens l.tokens l.fn.stack.items
