-- As far as the loop has come, both lists have the same entries.
use Rattle.std.proofs.Common.{◌≡◌, take}
use Rattle.sd_acl.proofs.list.same_entries.Given as goal

abbrev pub invariant-loop-i : goal.invariant-loop-i
invariant-loop-i l = take l.i l.one ≡ take l.i l.other
