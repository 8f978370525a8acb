-- The lines so far are those of the entries so far.
use Rattle.sd_show.proofs.Cited.{new_below, ◌++◌, ◌≡◌}
use Rattle.sd_show.proofs.diff.push_new.Given as goal

abbrev pub invariant-loop-place : goal.invariant-loop-place
invariant-loop-place l = l.lines ≡ l.initial.lines ++ new_below l.kind l.old l.new l.entries l.place
