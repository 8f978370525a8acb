-- The SIDs of the accounts that the rows so far disable.
use Rattle.std.proofs.Common.{take}
use Rattle.sd_accounts.specs.Kept.{all_rows}
use Rattle.sd_accounts.specs.Users.{AreDisabled}
use Rattle.sd_accounts.proofs.accounts.Accounts.disabled_sids.Given as goal

abbrev pub invariant-loop-row : goal.invariant-loop-row
invariant-loop-row l = AreDisabled l.sids (all_rows (take l.row-index l.row-items))
