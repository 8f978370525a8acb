-- The groups in which one of the starts so far directly is, by their numbers.
use Rattle.std.proofs.Common.{take}
use Rattle.indexmap.specs.IndexMap.{keys}
use Rattle.sd_accounts.specs.Accounts.{rows_of}
use Rattle.sd_accounts.specs.Index.{AreWithin, sids_at}
use Rattle.sd_accounts.specs.Walk.{HasStarts}
use Rattle.sd_accounts.proofs.accounts.Accounts.direct_groups.Given as goal

abbrev pub invariant-loop-start : goal.invariant-loop-start
invariant-loop-start l =
    HasStarts (rows_of l.self) (take l.start-index l.starts) (sids_at (keys l.self.index) l.found) × AreWithin (keys l.self.index) l.found
