-- No claim so far is the one, so it is the first of those that are left.
use Rattle.std.proofs.Common.{drop, false, ◌&&◌, ◌≡◌}
use Rattle.std.specs.List.{find}
use Rattle.sd_claim.specs.Claim.{ClaimValue}
use Rattle.sd_evaluation.specs.Case.{same_text}
use Rattle.sd_evaluation.specs.Facts.{attribute_claim, is_there}
use Rattle.sd_evaluation.proofs.attribute.attribute_claim.Given as goal

abbrev pub invariant-loop-claim : goal.invariant-loop-claim
invariant-loop-claim l =
    find (λ (c : ClaimValue). is_there l.kind c && same_text false c.name l.attribute.name)
    (drop l.claim-index l.claim-items)
    ≡ attribute_claim l.facts l.kind l.attribute
