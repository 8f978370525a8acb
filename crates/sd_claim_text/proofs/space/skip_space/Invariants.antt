-- What is left after the white space that is still here.
use Rattle.std.proofs.Common.{length, ◌≡◌, ◌≤◌}
use Rattle.sd_claim_text.specs.Value.{after_space}
use Rattle.sd_claim_text.proofs.space.skip_space.Given as goal

abbrev pub invariant-bytes : goal.invariant-bytes
invariant-bytes l = record {
  same : after_space l.cursor.rest.now ≡ after_space l.fn.cursor.rest.now;
  within : length l.cursor.rest.now ≤ length l.fn.cursor.rest.now;
}

abbrev pub decreases-bytes : goal.decreases-bytes
decreases-bytes l = length l.cursor.rest.now
