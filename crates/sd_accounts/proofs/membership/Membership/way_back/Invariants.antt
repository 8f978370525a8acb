-- The groups so far are the end of the way, the last first.
use Rattle.std.proofs.Common.{get_or, length, ◌<◌}
use Rattle.sd_sid.specs.Sid.{SidValue}
use Rattle.sd_accounts.proofs.Ways.{Ends}
use Rattle.sd_accounts.proofs.membership.Membership.way_back.Given as goal

abbrev pub invariant-back : goal.invariant-back
invariant-back l = record {
  within : l.last < length l.self.groups;
  ends : (d : SidValue) → Ends l.self.rows l.self.starts (get_or l.self.groups l.last d) (get_or l.self.groups l.place d) l.way.items;
}

abbrev pub decreases-back : goal.decreases-back
decreases-back l = l.last
