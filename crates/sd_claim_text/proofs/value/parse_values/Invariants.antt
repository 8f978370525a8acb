-- The values so far, and the text that is left.
use Rattle.std.proofs.Common.{[], length, ◌≤◌}
use Rattle.sd_claim_text.proofs.Loops.{Reaches}
use Rattle.sd_claim_text.specs.Value.{further_found}
use Rattle.sd_text.specs.Grammar.{begins}
use Rattle.std.specs.Prelude.{codes}
use Rattle.sd_claim_text.proofs.value.parse_values.Given as goal

abbrev pub invariant-values : goal.invariant-values
invariant-values l = record {
  reached : Reaches (λ there. begins there (codes ",")) (further_found l.value_type l.known) [] l.fn.cursor.rest.now l.values.items l.cursor.rest.now;
  within : length l.cursor.rest.now ≤ length l.fn.cursor.rest.now;
}

abbrev pub decreases-values : goal.decreases-values
decreases-values l = length l.cursor.rest.now
