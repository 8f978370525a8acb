-- The bits of the changes so far.
use Rattle.sd_c.proofs.Cited.{bits_of, take, ◌≡◌}
use Rattle.sd_c.proofs.analysis.bits_of.Given as goal

abbrev pub invariant-loop-change : goal.invariant-loop-change
invariant-loop-change l = l.bits ≡ bits_of (take l.change-index l.changes)
