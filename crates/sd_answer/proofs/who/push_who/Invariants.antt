-- The lines are those of the accesses so far.
use Rattle.sd_answer.proofs.Cited.{joined_accesses, take, values, ◌≡◌}
use Rattle.sd_answer.proofs.who.push_who.Given as goal

abbrev pub invariant-loop-access : goal.invariant-loop-access
invariant-loop-access l = values l.lines.items ≡ joined_accesses (take l.access-index l.accesses)
