-- The values so far are those of the literals so far.
use Rattle.std.proofs.Common.{map, take, ◌≡◌}
use Rattle.sd_client.specs.Claim.{in_claim}
use Rattle.sd_client.proofs.claim.all_in_claim.Given as goal

abbrev pub invariant-loop-literal : goal.invariant-loop-literal
invariant-loop-literal l = l.values.items ≡ map in_claim (take l.literal-index l.literals)
