-- The lines of the risks so far stand behind the others.
use Rattle.sd_commands.proofs.Cited.{flat_map, take, ◌++◌, ◌≡◌}
use Rattle.sd_commands.specs.WholeRisks.{most_lines}
use Rattle.sd_commands.proofs.whole_risks.push_most.Given as goal

abbrev pub invariant-loop-risk : goal.invariant-loop-risk
invariant-loop-risk l = l.lines.items ≡ l.initial.lines.items ++ flat_map (most_lines l.least) (take l.risk-index l.most)
