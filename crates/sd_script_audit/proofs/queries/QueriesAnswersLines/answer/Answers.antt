use Rattle.sd_script_audit.proofs.Cited.{IfOk-weaker, None, line_opens, on_ok_weaker, printed, progress, refl, style_in, true}
use Rattle.sd_script_audit.proofs.Lines.{answered}
use Rattle.sd_script_audit.proofs.queries.QueriesAnswersLines.answer.Goals as goal

-- a store is open, so no line opens one
pub done-requires : goal.done-requires
done-requires g c =
    IfOk-weaker c.asked_or_told-found.result _ _ (λ asked asks. line_opens c.args.self.now.notation true c.in-Some.line.now asked asks.2) c.asked_or_told-found.ensures.asks

pub returns : goal.returns
returns g c =
    let by = c.args.self.now in
    let answer = c.in_ok-answer.answer.items in
    let old = progress by.notation g.J.StoreId.opening by.workers c.args.open.now.writer c.args.open.now.queries.items in
    let new = progress by.notation g.J.StoreId.opening by.workers c.done.new.writer c.done.new.queries.items in
    on_ok_weaker c.push_printed.result (λ grown. (
      printed (style_in by.notation) None answer,
      grown,
      rw (c.in-Some.is) (
        answer,
        record {
          answered = answered by.workers old new c.in-Some.line.now answer c.asked_or_told-found.result c.asked_or_told-found.ensures.asks c.asked_or_told-found.ensures.told c.in_ok-answer.ensures;
          counted = rw (c.deref.ensures.value) at c.with-open.ensures;
        },
        refl,
      ),
    )) (rw (c.style.ensures, c.deref-2.ensures.value) at c.push_printed.ensures)
