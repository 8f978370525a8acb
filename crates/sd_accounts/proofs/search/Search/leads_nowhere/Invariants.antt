-- From no group in which one of the starts so far directly is a wanted one is reached.
use Rattle.std.proofs.Common.{take}
use Rattle.sd_accounts.specs.Search.{searched, wanted_by}
use Rattle.sd_accounts.specs.Wanted.{NoneAbove}
use Rattle.sd_accounts.proofs.search.Search.leads_nowhere.Given as goal

abbrev pub invariant-loop-start : goal.invariant-loop-start
invariant-loop-start l = NoneAbove (searched l.self) (wanted_by l.self) (take l.start-index l.starts)
