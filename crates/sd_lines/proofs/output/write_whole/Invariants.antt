-- What is gone from `rest` was appended, no write has failed, and each turn takes at least one byte.
use Rattle.sd_lines.proofs.Cited.{Appends, List, has_failed, inner_of, length, ℕ, ◌++◌, ◌≡◌}
use Rattle.sd_lines.proofs.output.write_whole.Given as goal

abbrev pub invariant-loop-rest : goal.invariant-loop-rest
invariant-loop-rest g l = record {
  done : List ℕ;
  split : l.initial.rest ≡ done ++ l.rest;
  appended : Appends (g.W.Write.contents (inner_of l.initial.writer)) (g.W.Write.contents (inner_of l.writer)) done;
  unfailed : has_failed l.writer ≡ has_failed l.initial.writer;
}

abbrev pub decreases-loop-rest : goal.decreases-loop-rest
decreases-loop-rest g l = length l.rest
