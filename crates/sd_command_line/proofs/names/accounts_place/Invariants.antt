-- No word so far is the option.
use Rattle.std.proofs.Common.{◌≡◌, ◌<◌, Bor, List, false, get_or, ℕ}
use Rattle.sd_command_line.specs.Names.{is_accounts}
use Rattle.sd_command_line.proofs.names.accounts_place.Given as goal

abbrev pub invariant-loop-place : goal.invariant-loop-place
invariant-loop-place l = (k : ℕ) (d : Bor (List ℕ)) → k < l.place → is_accounts (get_or l.words k d).now ≡ false
