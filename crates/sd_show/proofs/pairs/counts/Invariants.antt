-- The entries so far are counted.
use Rattle.sd_show.proofs.Cited.{counts, values, ◌≡◌}
use Rattle.sd_show.proofs.pairs.counts.Given as goal

abbrev pub invariant-loop-place : goal.invariant-loop-place
invariant-loop-place l = values l.list.items ≡ counts l.entries l.place
