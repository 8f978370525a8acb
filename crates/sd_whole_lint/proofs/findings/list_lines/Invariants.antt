-- The lines so far are those of the entries so far.
use Rattle.std.proofs.Common.{◌≡◌}
use Rattle.sd_whole_lint.specs.Findings.{list_lines}
use Rattle.sd_whole_lint.proofs.findings.list_lines.Given as goal

abbrev pub invariant-loop-place : goal.invariant-loop-place
invariant-loop-place l = l.lines.items ≡ list_lines l.view.names l.view.chain.now l.wholes l.entries l.marks l.place
