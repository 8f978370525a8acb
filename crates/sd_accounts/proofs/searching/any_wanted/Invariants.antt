-- None of the SIDs so far is wanted.
use Rattle.std.proofs.Common.{take}
use Rattle.sd_accounts.specs.Wanted.{AreUnwanted}
use Rattle.sd_accounts.proofs.searching.any_wanted.Given as goal

abbrev pub invariant-loop-sid : goal.invariant-loop-sid
invariant-loop-sid l = AreUnwanted l.wanted.keys (take l.sid-index l.sids)
