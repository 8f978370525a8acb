-- The walk so far, by numbers.
use Rattle.indexmap.specs.IndexMap.{keys}
use Rattle.sd_accounts.specs.Accounts.{rows_of}
use Rattle.sd_accounts.specs.Index.{AreWithin, sids_at}
use Rattle.sd_accounts.specs.Walk.{IsWalked}
use Rattle.sd_accounts.proofs.accounts.Accounts.membership.Given as goal

abbrev pub invariant-loop-place : goal.invariant-loop-place
invariant-loop-place l = IsWalked (rows_of l.self) l.starts (sids_at (keys l.self.index) l.found) l.before.items l.place × AreWithin (keys l.self.index) l.found
