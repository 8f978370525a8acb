-- The index so far is that of the rows so far.
use Rattle.std.proofs.Common.{take}
use Rattle.sd_accounts.specs.Index.{IsIndexOf}
use Rattle.sd_accounts.specs.Kept.{all_rows}
use Rattle.sd_accounts.proofs.index.index_rows.Given as goal

abbrev pub invariant-loop-row : goal.invariant-loop-row
invariant-loop-row l = IsIndexOf l.index (all_rows (take l.row-index l.rows))
