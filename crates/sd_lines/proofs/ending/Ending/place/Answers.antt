use Rattle.sd_lines.proofs.Cited.{sym, ◌∙◌}
use Rattle.sd_lines.proofs.Cutting.{place_or_end}
use Rattle.sd_lines.proofs.ending.Ending.place.Goals as goal

pub returns-clause-place : goal.returns-clause-place
returns-clause-place c =
    c.unwrap_or.ensures ∙ sym (place_or_end c.args.self c.args.bytes.now c.memchr.result (rw c.byte.ensures at c.memchr.ensures))
