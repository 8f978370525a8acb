-- The entries so far are judged, from the last on.
use Rattle.std.proofs.Common.{length, ◌-◌}
use Rattle.sd_analysis.proofs.Judged.{IsJudged}
use Rattle.sd_analysis.proofs.redundancy.redundant.Given as goal

abbrev pub invariant-loop-judged : goal.invariant-loop-judged
invariant-loop-judged l = IsJudged l.owner l.entries l.mapping l.base (length l.entries - l.judged) l.marks.items l.left.items
