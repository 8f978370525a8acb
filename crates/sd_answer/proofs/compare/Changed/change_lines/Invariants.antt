-- The lines are those of the changes so far.
use Rattle.sd_answer.proofs.Cited.{change_line, map, parts_of, take, values, ◌≡◌}
use Rattle.sd_answer.proofs.compare.Changed.change_lines.Given as goal

abbrev pub invariant-loop-change : goal.invariant-loop-change
invariant-loop-change l = values l.lines.items ≡ map (change_line (parts_of l.self.old.now) (parts_of l.self.new.now)) (take l.change-index l.changes)
