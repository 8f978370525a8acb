-- The lines of the descendants so far stand behind the others.
use Rattle.sd_answer.proofs.Cited.{descendants_who_lines, take, ◌++◌, ◌≡◌}
use Rattle.sd_answer.proofs.descendants.push_descendants_who.Given as goal

abbrev pub invariant-loop-access : goal.invariant-loop-access
invariant-loop-access l = l.out.items ≡ l.initial.out.items ++ descendants_who_lines (take l.access-index l.all)
