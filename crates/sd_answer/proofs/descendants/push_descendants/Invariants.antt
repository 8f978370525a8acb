-- The lines of the changes so far stand behind the others.
use Rattle.sd_answer.proofs.Cited.{descendants_lines, take, ◌++◌, ◌≡◌}
use Rattle.sd_answer.proofs.descendants.push_descendants.Given as goal

abbrev pub invariant-loop-change : goal.invariant-loop-change
invariant-loop-change l = l.out.items ≡ l.initial.out.items ++ descendants_lines (take l.change-index l.changes)
