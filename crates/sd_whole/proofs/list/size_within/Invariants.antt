-- The size so far is that of the entries so far.
use Rattle.sd_whole.proofs.Cited.{sum_by, take, whole_ace_size, ◌+◌, ◌≡◌, ◌≤◌}
use Rattle.sd_whole.proofs.list.size_within.Given as goal

abbrev pub invariant-loop-entry : goal.invariant-loop-entry
invariant-loop-entry l = (l.size ≡ 8 + sum_by whole_ace_size (take l.entry-index l.entries)) × (l.size ≤ 65535)
