-- The total so far is what the tokens so far take.
use Rattle.sd_condition.proofs.Cited.{flat_map, length, take, token_bytes, ◌<◌, ◌^◌, ◌≡◌}
use Rattle.sd_condition.proofs.token.tokens_len.Given as goal

abbrev pub invariant-loop-token : goal.invariant-loop-token
invariant-loop-token l = (l.total ≡ length (flat_map token_bytes (take l.token-index l.tokens))) × (l.total < 2 ^ 64)
