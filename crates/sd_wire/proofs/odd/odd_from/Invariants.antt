-- What is found from here on is what is found from the start on.
use Rattle.sd_wire.proofs.Cited.{length, odd_from, ◌+◌, ◌-◌, ◌≡◌, ◌≤◌}
use Rattle.sd_wire.proofs.odd.odd_from.Given as goal

abbrev pub invariant-loop-i : goal.invariant-loop-i
invariant-loop-i l =
    (odd_from l.bytes l.at (l.count - l.i) (l.i + 1) ≡ odd_from l.bytes l.place l.count 1)
    × (l.at ≤ length l.bytes + 65535)
