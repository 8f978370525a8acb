-- Of numbers of the SIDs so far it is kept.
use Rattle.std.proofs.Common.{take}
use Rattle.indexmap.specs.IndexMap.{keys}
use Rattle.sd_accounts.specs.Wanted.{Keeps}
use Rattle.sd_accounts.proofs.searching.keep.Given as goal

abbrev pub invariant-loop-sid : goal.invariant-loop-sid
invariant-loop-sid l = Keeps (keys l.index) (take l.sid-index l.sids) l.initial.nowhere.items l.nowhere.items
