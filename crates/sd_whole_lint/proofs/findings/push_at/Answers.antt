use Rattle.std.proofs.Common.{append-nil, arith, sym}
use Rattle.std.proofs.lemmas.Option.{slice_get_past}
use Rattle.sd_whole_lint.proofs.findings.push_at.Goals as goal

-- there is no such entry
pub returns-in-None : goal.returns-in-None
returns-in-None c =
    rw (slice_get_past c.args.wholes.now c.args.place (grind (arith, c.in-None.ensures.lookup))) (sym (append-nil _))
