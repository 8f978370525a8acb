-- A silent entry changes no tally.
use Rattle.std.proofs.Common.{length, drop, ◌-◌, arith}
use Rattle.std.proofs.lemmas.List.{length-drop, length-take-le}
use Rattle.sd_check.proofs.Passes.{takes_next}
use Rattle.sd_check.proofs.question.Question.from_next.Goals as goal

pub silent-init : goal.silent-init
silent-init g c = (λ both progress to rest. rest, omega arith)

pub silent-preserved : goal.silent-preserved
silent-preserved g c = (
  λ both progress to rest. c.silent.invariant.0 both progress to
      (takes_next g.E.Entry.ace both _ c.entry-item.result c.silent.rest.now _ progress progress to c.in-len1-up.len_at_least c.entry-item.is (c.is_silent.ensures c.if-not-is_silent.false both progress) rest),
  omega (arith, c.silent.invariant.1, length-drop 1 c.silent.rest.now, length-take-le (length c.silent.rest.now - 1) (drop 1 c.silent.rest.now) (omega (arith, length-drop 1 c.silent.rest.now))),
)
