use Rattle.sd_path.proofs.Cited.{ended, length, names_of, up, ◌-◌, ◌≤◌}
use Rattle.sd_path.proofs.lent.parent_len.Given as goal

abbrev pub invariant-loop-end : goal.invariant-loop-end
invariant-loop-end l = record {
  behind : length (ended (up (names_of l.bytes))) ≤ l.end;
  within : l.end ≤ length l.bytes - 1;
}

abbrev pub decreases-loop-end : goal.decreases-loop-end
decreases-loop-end l = l.end
