use Rattle.sd_script_audit.proofs.Cited.{AreAnswered, None, PrintsNextInAudit, Some, Unopened, [], ap, append-nil, before_first_line, before_queries, inl, inr, is_some, lines, refl, seen_as, style_in, sym, ◌++◌, ◌∙◌, ◌≡◌}
use Rattle.sd_script_audit.proofs.Lines.{lines_before}
use Rattle.sd_script_audit.proofs.output.audit_output.Goals as goal

pub returns-clause-printed : goal.returns-clause-printed
returns-clause-printed g c =
    let options = c.args.options.now in
    let n = c.args.workers in
    let said = c.in_ok-after.ensures.answered in
    let rest = c.in_ok-counts.ensures.audited in
    let left = c.answer_until.new.state in
    let seen : AreAnswered (PrintsNextInAudit (style_in options.notation) n) (before_queries options n None c.of_no_lines.result) said.0 said.1 (before_queries options n left.root left.counts) =
    seen_as _ (PrintsNextInAudit (style_in options.notation) n) (λ (s : Unopened). before_queries options n s.root s.counts) (λ old new line text is. is) _ left said.0 said.1 said.4 in
    let first = rw (c.in-Some.is, c.of_no_lines.ensures) at seen in
    let whole : c.open_and_audit.new.printed.items ≡ said.1 ++ rest.0 =
    rest.1 ∙ ap (λ l. l ++ rest.0) (said.3 ∙ ap (λ l. l ++ said.1) c.new-printed.ensures.items) in
    lines_before (style_in options.notation) n (before_first_line options) (before_queries options n (Some c.in-Some.root) left.counts) _ said.0 (lines c.in_ok-after.after.now) _ said.1 rest.0 c.in_ok-counts.counts
    said.2 whole first rest.2

pub returns-in_default-clause-printed : goal.returns-in_default-clause-printed
returns-in_default-clause-printed g c =
    let options = c.args.options.now in
    let n = c.args.workers in
    let said = c.in_ok-after.ensures.answered in
    let left = c.answer_until.new.state in
    let seen : AreAnswered (PrintsNextInAudit (style_in options.notation) n) (before_queries options n None c.of_no_lines.result) said.0 said.1 (before_queries options n left.root left.counts) =
    seen_as _ (PrintsNextInAudit (style_in options.notation) n) (λ (s : Unopened). before_queries options n s.root s.counts) (λ old new line text is. is) _ left said.0 said.1 said.4 in
    let first = rw (c.in_default.is, c.of_no_lines.ensures) at seen in
    let none : c.in_ok-after.after.now ≡ [] = elim c.in_ok-after.ensures.over [ inl nothing ↦ nothing | inr over ↦ absurd (let is = over.says.met ∙ ap (λ (s : Unopened). is_some s.root) over.shows ∙ ap is_some c.in_default.is in cc (is)) ] in
    let all : lines c.args.text.now ≡ said.0 = said.2 ∙ ap (λ t. said.0 ++ lines t) none ∙ append-nil said.0 in (
      before_queries options n None left.counts,
      said.1,
      rw all first,
      said.3 ∙ ap (λ l. l ++ said.1) c.new-printed.ensures.items ∙ sym (append-nil said.1),
      refl,
    )
