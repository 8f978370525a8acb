-- The lines so far, and their rows.
use Rattle.std.proofs.Common.{List, length, ℕ, ◌++◌, ◌+◌, ◌≡◌, ◌≤◌}
use Rattle.std.specs.Option.{option_copied}
use Rattle.sd_accounts.specs.Kept.{all_rows}
use Rattle.sd_accounts.specs.Row.{AreRows, lines_of}
use Rattle.sd_accounts.proofs.Lines.{left_len, lines_left}
use Rattle.sd_accounts.proofs.read.read_rows.Given as goal

abbrev pub invariant-lines : goal.invariant-lines
invariant-lines l = record {
  done : List (List ℕ);
  parts : lines_of l.text ≡ done ++ lines_left (option_copied l.left);
  place : l.number ≡ length done;
  are_rows : AreRows done (all_rows l.rows.items);
  room : l.number + left_len (option_copied l.left) ≤ length l.text + 1;
}

abbrev pub decreases-lines : goal.decreases-lines
decreases-lines l = left_len (option_copied l.left)
