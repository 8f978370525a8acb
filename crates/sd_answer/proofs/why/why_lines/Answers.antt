-- The verdict that the reasons tell is the check's.
use Rattle.sd_answer.proofs.why.why_lines.Goals as goal

pub returns : goal.returns
returns c = rw (
  ← c.explain_descriptor-explanation.ensures.verdict,
  ← c.explain_descriptor-explanation.ensures.reasons,
) c.explanation_lines.ensures
