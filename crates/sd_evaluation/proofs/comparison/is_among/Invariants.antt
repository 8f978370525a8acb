-- What was found, and what is left, is what all are.
use Rattle.std.proofs.Common.{drop, ◌≡◌}
use Rattle.sd_evaluation.specs.Compare.{is_among}
use Rattle.sd_evaluation.specs.Seen.{seen, seen_values}
use Rattle.sd_evaluation.specs.Truth.{or_truth}
use Rattle.sd_evaluation.specs.Value.{listed}
use Rattle.sd_evaluation.proofs.comparison.is_among.Given as goal

abbrev pub invariant-these : goal.invariant-these
invariant-these l =
    or_truth l.found (is_among l.with_case (drop l.i (listed (seen_values l.these))) (seen l.value))
    ≡ is_among l.with_case (listed (seen_values l.these)) (seen l.value)
