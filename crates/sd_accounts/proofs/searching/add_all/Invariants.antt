-- The SIDs so far are added, and no others.
use Rattle.std.proofs.Common.{take}
use Rattle.std.specs.List.{Contains}
use Rattle.sd_accounts.specs.Walk.{Extends}
use Rattle.sd_accounts.proofs.searching.add_all.Given as goal

abbrev pub invariant-loop-sid : goal.invariant-loop-sid
invariant-loop-sid l = Extends (Contains (take l.sid-index l.sids)) l.initial.set.keys l.set.keys
