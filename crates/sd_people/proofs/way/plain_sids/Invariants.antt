-- The SIDs so far.
use Rattle.std.proofs.Common.{◌≡◌, take}
use Rattle.sd_people.specs.Way.{plain_sids}
use Rattle.sd_people.proofs.way.plain_sids.Given as goal

abbrev pub invariant-loop-sid : goal.invariant-loop-sid
invariant-loop-sid l = l.marked.items ≡ plain_sids (take l.sid-index l.sids)
