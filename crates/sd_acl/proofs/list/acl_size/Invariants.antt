-- The size so far is that of the entries so far.
use Rattle.std.proofs.Common.{◌≡◌, ◌≤◌, ◌+◌, ◌*◌, take, sum_by}
use Rattle.sd_acl.specs.Ace.{ace_size}
use Rattle.sd_acl.proofs.list.acl_size.Given as goal

abbrev pub invariant-loop-entry : goal.invariant-loop-entry
invariant-loop-entry l = (l.size ≡ 8 + sum_by ace_size (take l.entry-index l.entries)) × (l.size ≤ 8 + 76 * l.entry-index)
