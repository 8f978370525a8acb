-- Who is named by the rows so far.
use Rattle.std.proofs.Common.{take}
use Rattle.sd_accounts.specs.Found.{IsFound}
use Rattle.sd_accounts.specs.Kept.{all_rows}
use Rattle.sd_accounts.proofs.accounts.Accounts.sid_named.Given as goal

abbrev pub invariant-loop-row : goal.invariant-loop-row
invariant-loop-row l = IsFound (all_rows (take l.row-index l.row-items)) l.text l.found
