-- The users so far, and after them those of the rows to come, are the users that may log on.
use Rattle.std.proofs.Common.{drop, ◌≡◌, ◌++◌}
use Rattle.sd_accounts.specs.Accounts.{rows_of}
use Rattle.sd_accounts.specs.Kept.{all_rows}
use Rattle.sd_accounts.specs.Names.{is_disabled}
use Rattle.sd_accounts.specs.Users.{named, user_rows, users_of}
use Rattle.sd_accounts.proofs.Logging.{enabled}
use Rattle.sd_accounts.proofs.accounts.Accounts.users.Given as goal

abbrev pub invariant-loop-row : goal.invariant-loop-row
invariant-loop-row l =
    named l.users.items ++ enabled (is_disabled (rows_of l.self)) (user_rows l.last (all_rows (drop l.row-index l.row-items))) ≡ users_of (rows_of l.self)
