-- The parts are those of the descriptor's own DACL.
use Rattle.std.proofs.Common.{refl}
use Rattle.sd_answer.proofs.why.explanation_lines.Goals as goal

pub returns : goal.returns
returns c = rw (
  c.in_ok-push_parts.ensures,
  c.in_ok-lines.ensures.items,
  c.in_ok-verdict_line.ensures,
  c.verdict.ensures,
  c.entries_in.ensures,
) refl
