-- The bytes so far are of the class.
use Rattle.sd_condition_parse.proofs.Cited.{drop, run_len, ◌+◌, ◌≡◌}
use Rattle.sd_condition_parse.proofs.run.run_len.Given as goal

abbrev pub invariant-loop-i : goal.invariant-loop-i
invariant-loop-i l = run_len l.class l.text ≡ l.i + run_len l.class (drop l.i l.text)
