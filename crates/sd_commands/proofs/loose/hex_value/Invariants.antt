-- What is left, read behind the bytes so far, is the whole.
use Rattle.sd_commands.proofs.Cited.{Ok, drop, is_between, joined, length, parts_read, slice_split, ◌-◌, ◌≡◌, ◌≤◌}
use Rattle.sd_commands.proofs.loose.hex_value.Given as goal

abbrev pub invariant-loop-rest : goal.invariant-loop-rest
invariant-loop-rest l =
    (length l.rest ≤ length l.text)
    × (parts_read l.place (slice_split is_between (drop l.place l.text)) ≡ joined (Ok l.bytes.items) (parts_read (length l.text - length l.rest) (slice_split is_between l.rest)))

abbrev pub decreases-loop-rest : goal.decreases-loop-rest
decreases-loop-rest l = length l.rest
