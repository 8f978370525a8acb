-- All SIDs of lesser numbers are named.
use Rattle.sd_analysis.proofs.Cited.{is_named, numbered, parts_of, true, ℕ, ◌<◌, ◌||◌, ◌≡◌}
use Rattle.sd_analysis.proofs.compare_sides.unnamed.Given as goal

abbrev pub invariant-loop-n : goal.invariant-loop-n
invariant-loop-n l = (k : ℕ) → k < l.n → (is_named (parts_of l.old) (numbered k) || is_named (parts_of l.new) (numbered k)) ≡ true
