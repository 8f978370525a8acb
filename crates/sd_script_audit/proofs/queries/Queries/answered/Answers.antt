use Rattle.sd_script_audit.proofs.Cited.{None, Opened, PrintsNextInAudit, ap, append_assoc, audited, end_of, machine_of, on_ok_weaker, printed, refl, seen_as, style_in, ◌++◌, ◌∙◌}
use Rattle.sd_script_audit.proofs.queries.Queries.answered.Goals as goal

pub returns-clause-audited : goal.returns-clause-audited
returns-clause-audited g c =
    let by = c.args.self.now in
    let o = g.J.StoreId.opening in
    let said = c.in_ok-answer_text.ensures in
    let left = c.answer_text.new.state in
    let style = style_in by.notation in
    let end = printed style None (end_of (Opened by.notation (machine_of o by.workers left.writer)) left.queries.items) in
    on_ok_weaker c.publish_and_answer.result (λ more. (
      said.0 ++ end,
      more ∙ ap (λ l. l ++ end) said.1 ∙ append_assoc _ said.0 end,
      (
        audited by.notation o by.workers left.writer left.queries.items left.counts,
        said.0,
        seen_as _ (PrintsNextInAudit style by.workers) (λ s. audited by.notation o by.workers s.writer s.queries.items s.counts) (λ old new line text is. is)
            c.args.open.now left _ said.0 said.2,
        refl,
        refl,
      ),
    )) (rw (c.deref.ensures.value) at (c.publish_and_answer.ensures.end by.workers))
