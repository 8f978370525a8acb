-- The bytes so far were read.
use Rattle.std.proofs.Common.{◌≤◌}
use Rattle.sd_accounts.specs.Accounts.{rows_of}
use Rattle.sd_named.specs.Sddl.{IsRead}
use Rattle.sd_named.proofs.sddl.named_sddl.Given as goal

abbrev pub invariant-loop-i : goal.invariant-loop-i
invariant-loop-i l = IsRead (rows_of l.accounts) l.known l.bytes l.i l.place l.field.items l.named.items × (l.place.depth ≤ l.i)
