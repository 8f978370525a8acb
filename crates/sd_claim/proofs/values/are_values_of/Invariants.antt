-- Whether all are values of the type depends on those that are left.
use Rattle.sd_claim.proofs.Cited.{drop, is_value_of, list_all, ◌≡◌}
use Rattle.sd_claim.proofs.values.are_values_of.Given as goal

abbrev pub invariant-loop-value : goal.invariant-loop-value
invariant-loop-value l = list_all (is_value_of l.value_type) (drop l.value-index l.values) ≡ list_all (is_value_of l.value_type) l.values
