-- The lines of the risks so far stand behind the others.
use Rattle.sd_commands.proofs.Cited.{flat_map, take, ◌++◌, ◌≡◌}
use Rattle.sd_commands.specs.WholeRisks.{least_lines}
use Rattle.sd_commands.proofs.whole_risks.WholeEntries.push_least.Given as goal

abbrev pub invariant-loop-risk : goal.invariant-loop-risk
invariant-loop-risk l = l.lines.items
    ≡ l.initial.lines.items ++ flat_map (least_lines l.self.names l.self.entries.now l.most) (take l.risk-index l.least)
