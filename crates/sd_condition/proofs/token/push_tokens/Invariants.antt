-- The bytes so far are those that were there, and the tokens so far.
use Rattle.sd_condition.proofs.Cited.{flat_map, take, token_bytes, ◌++◌, ◌≡◌}
use Rattle.sd_condition.proofs.token.push_tokens.Given as goal

abbrev pub invariant-loop-token : goal.invariant-loop-token
invariant-loop-token l = l.bytes.items ≡ l.fn.bytes.items ++ flat_map token_bytes (take l.token-index l.tokens)
