-- The groups so far that are Everyone.
use Rattle.sd_analysis.proofs.Cited.{flat_map, take, where_everyone, ◌≡◌}
use Rattle.sd_analysis.proofs.concern.everyone_of.Given as goal

abbrev pub invariant-loop-group : goal.invariant-loop-group
invariant-loop-group l = l.groups.items ≡ flat_map where_everyone (take l.group-index l.base)
