-- The rows so far give the SID no name.
use Rattle.std.proofs.Common.{None, take, ◌≡◌}
use Rattle.sd_accounts.specs.Kept.{all_rows}
use Rattle.sd_accounts.specs.Names.{first_name}
use Rattle.sd_accounts.proofs.accounts.Accounts.name_of.Given as goal

abbrev pub invariant-loop-row : goal.invariant-loop-row
invariant-loop-row l = first_name (all_rows (take l.row-index l.row-items)) l.sid ≡ None
