-- The groups so far and those that are left are all of them.
use Rattle.sd_c.proofs.Cited.{groups_read, length, ◌-◌, ◌≡◌}
use Rattle.sd_c.proofs.Loop.{behind}
use Rattle.sd_c.proofs.request.groups_of.Given as goal

abbrev pub invariant-loop-at : goal.invariant-loop-at
invariant-loop-at l = behind l.groups.items (groups_read l.rest l.states l.at (length l.states - l.at)) ≡ groups_read l.bytes l.states 0 (length l.states)
