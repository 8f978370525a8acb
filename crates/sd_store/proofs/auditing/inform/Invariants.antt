use Rattle.sd_store.proofs.Cited.{IsInformed, Sight, length, slice_index_or, ℕ, ◌<◌, ◌≡◌, ◌≤◌}
use Rattle.sd_store.proofs.auditing.inform.Given as goal

abbrev pub invariant-loop-checker : goal.invariant-loop-checker
invariant-loop-checker g l =
    (length l.checker-items ≡ length l.initial.checker-items)
    × (l.notice ≡ l.initial.notice)
    × ((i : ℕ) (d : Sight) → i < l.checker-index → IsInformed l.notice.journal (slice_index_or l.initial.checker-items i d) (slice_index_or l.checker-items i d))
    × ((i : ℕ) (d : Sight) → l.checker-index ≤ i → slice_index_or l.checker-items i d ≡ slice_index_or l.initial.checker-items i d)
