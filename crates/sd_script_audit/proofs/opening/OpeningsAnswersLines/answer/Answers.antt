use Rattle.sd_script_audit.proofs.Cited.{IfOk-weaker, None, false, line_opens, on_ok_weaker, printed, refl, style_in, unopened, without_queries}
use Rattle.sd_script_audit.proofs.Lines.{answered}
use Rattle.sd_script_audit.proofs.opening.OpeningsAnswersLines.answer.Goals as goal

-- no store is open, so a line opens one
pub open-requires-clause-opening : goal.open-requires-clause-opening
open-requires-clause-opening c =
    IfOk-weaker c.asked_or_told-found.result _ _ (λ asked asks. line_opens c.args.self.now.options.notation false c.in-Some-None.line.now asked asks.2) c.asked_or_told-found.ensures.asks

pub returns : goal.returns
returns c =
    let by = c.args.self.now in
    let answer = c.in_ok-answer.answer.items in
    on_ok_weaker c.push_printed.result (λ grown. (
      printed (style_in by.options.notation) None answer,
      grown,
      rw (c.in-Some-None.is-0, c.in-Some-None.is-1) (
        answer,
        record {
          answered = answered by.workers (unopened by.options) (without_queries by.options by.workers c.open.new.opened) c.in-Some-None.line.now answer c.asked_or_told-found.result
              c.asked_or_told-found.ensures.asks c.asked_or_told-found.ensures.told c.in_ok-answer.ensures;
          counted = rw (c.deref.ensures.value) at c.with-unopened.ensures;
        },
        refl,
      ),
    )) (rw (c.style.ensures, c.deref-2.ensures.value) at c.push_printed.ensures)
