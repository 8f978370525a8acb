use Rattle.sd_store.proofs.Cited.{None, Sight, slice_index_or, ℕ, ◌<◌, ◌≡◌}
use Rattle.sd_store.proofs.auditing.first_failure.Given as goal

abbrev pub invariant-loop-checker : goal.invariant-loop-checker
invariant-loop-checker g l = (i : ℕ) (d : Sight) → i < l.checker-index → (slice_index_or l.checkers i d).failed ≡ None
