-- The lines of the risks so far stand behind the others.
use Rattle.sd_commands.proofs.Cited.{map, risk_line, take, ◌++◌, ◌≡◌}
use Rattle.sd_commands.proofs.risks.push_lines.Given as goal

abbrev pub invariant-loop-risk : goal.invariant-loop-risk
invariant-loop-risk l = l.out.items ≡ l.initial.out.items ++ map risk_line (take l.risk-index l.risks)
