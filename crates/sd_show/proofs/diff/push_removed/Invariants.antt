-- The lines so far are those of the entries so far.
use Rattle.sd_show.proofs.Cited.{removed_below, ◌++◌, ◌≡◌}
use Rattle.sd_show.proofs.diff.push_removed.Given as goal

abbrev pub invariant-loop-place : goal.invariant-loop-place
invariant-loop-place l = l.lines ≡ l.initial.lines ++ removed_below l.kind l.partners l.entries l.place
