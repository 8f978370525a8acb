-- The lines of the places so far stand behind the verdict's.
use Rattle.sd_answer.proofs.Cited.{part_lines, reason_in, ◌++◌, ◌≡◌}
use Rattle.sd_answer.proofs.why.Listed.push_parts.Given as goal

abbrev pub invariant-loop-place : goal.invariant-loop-place
invariant-loop-place l =
    l.lines.items ≡ l.initial.lines.items ++ part_lines l.self.owner.now l.self.entries.now (reason_in l.explanation.reasons) l.place
