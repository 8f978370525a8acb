-- The tokens so far, and those in the rest, are all tokens.
use Rattle.sd_condition.proofs.Cited.{length}
use Rattle.sd_condition.proofs.Loop.{TokensLeft}
use Rattle.sd_condition.proofs.condition.read_tokens.Given as goal

abbrev pub invariant-tokens : goal.invariant-tokens
invariant-tokens l = TokensLeft l.bytes l.rest l.tokens.items

abbrev pub decreases-tokens : goal.decreases-tokens
decreases-tokens l = length l.rest
