-- The parts so far stand at their places.
use Rattle.sd_c.proofs.Cited.{get_or, length, no_part, part_at, part_told, reason_in, ℕ, ◌<◌, ◌≡◌}
use Rattle.sd_c.proofs.explaining.parts_of.Given as goal

abbrev pub invariant-loop-place : goal.invariant-loop-place
invariant-loop-place l =
    (length l.parts ≡ 32)
    × ((k : ℕ) → k < l.place → get_or l.parts k no_part ≡ part_told (part_at (reason_in l.explanation.reasons) k))
