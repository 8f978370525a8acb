-- The index so far keeps what it had, and has the SIDs so far.
use Rattle.std.proofs.Common.{◌≡◌, true, take}
use Rattle.sd_check.proofs.Cited.{SidValue, IsMarked, Keeps, list_any, same_sid}
use Rattle.sd_check.proofs.index.Index.mark_each.Given as goal

abbrev pub invariant-sids : goal.invariant-sids
invariant-sids l =
    Keeps l.fn.self.heads l.fn.self.nexts l.self.heads l.self.nexts
    × ((s : SidValue) → list_any (λ one. same_sid one s) (take l.sid-index l.sids) ≡ true → IsMarked l.self.heads l.self.nexts s)
