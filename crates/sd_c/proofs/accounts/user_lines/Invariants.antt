-- The text so far has the lines of the users so far.
use Rattle.std.proofs.Common.{take, ◌≡◌}
use Rattle.std.specs.List.{flat_map}
use Rattle.sd_accounts.specs.Users.{named_user}
use Rattle.sd_c.specs.Accounts.{user_line}
use Rattle.sd_c.proofs.accounts.user_lines.Given as goal

abbrev pub invariant-loop-user : goal.invariant-loop-user
invariant-loop-user l = l.text.items ≡ flat_map (λ user. user_line (named_user user)) (take l.user-index l.users)
