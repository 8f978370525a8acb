-- The user, and a group that counts for the SID, are on the chain from here.
use Rattle.std.proofs.Common.{◌+◌, ◌≤◌, length}
use Rattle.sd_check.proofs.Chains.{Leads}
use Rattle.sd_check.proofs.index.Index.stands_for.Given as goal

abbrev pub invariant-loop-link : goal.invariant-loop-link
invariant-loop-link l =
    (l.link ≤ length l.groups + 1) × (l.link ≤ 255) × Leads l.self.nexts l.user l.sid l.groups l.kind l.link

abbrev pub decreases-loop-link : goal.decreases-loop-link
decreases-loop-link l = l.link
