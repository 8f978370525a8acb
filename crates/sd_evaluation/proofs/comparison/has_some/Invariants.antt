-- What was found, and what is left, is what all are.
use Rattle.std.proofs.Common.{drop, ◌≡◌}
use Rattle.sd_evaluation.specs.Compare.{has_some}
use Rattle.sd_evaluation.specs.Seen.{seen_values}
use Rattle.sd_evaluation.specs.Truth.{or_truth}
use Rattle.sd_evaluation.specs.Value.{listed}
use Rattle.sd_evaluation.proofs.comparison.has_some.Given as goal

abbrev pub invariant-others : goal.invariant-others
invariant-others l =
    or_truth l.found (has_some l.with_case (listed (seen_values l.these)) (drop l.i (listed (seen_values l.others))))
    ≡ has_some l.with_case (listed (seen_values l.these)) (listed (seen_values l.others))
