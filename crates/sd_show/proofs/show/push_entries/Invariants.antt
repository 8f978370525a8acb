-- The lines so far are those of the entries so far.
use Rattle.sd_show.proofs.Cited.{entries_below, ◌++◌, ◌≡◌}
use Rattle.sd_show.proofs.show.push_entries.Given as goal

abbrev pub invariant-loop-place : goal.invariant-loop-place
invariant-loop-place l = l.lines ≡ l.initial.lines ++ entries_below l.kind l.entries l.place
