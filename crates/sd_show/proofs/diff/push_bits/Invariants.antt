-- The lines so far are those of the bits so far.
use Rattle.sd_show.proofs.Cited.{bit_changes, flat_map, rows, take, ◌++◌, ◌≡◌}
use Rattle.sd_show.proofs.diff.push_bits.Given as goal

abbrev pub invariant-loop-bit : goal.invariant-loop-bit
invariant-loop-bit l = l.lines ≡ l.initial.lines ++ flat_map (bit_changes l.field l.was l.is) (rows (take l.bit-index l.bit-items))
