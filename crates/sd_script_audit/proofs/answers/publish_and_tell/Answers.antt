-- The edits that wait are published, where there are some.
use Rattle.sd_script_audit.proofs.Cited.{None, PUBLISHED, StoreState, TOLD, Vec, ap, counted_line, form, last_publish, length, printed, ℕ, ◌++◌, ◌∙◌, ◌≡◌}
use Rattle.sd_script_audit.proofs.Answering.{none_waits, publishes_none, publishes_some, told_after}
use Rattle.sd_script_audit.proofs.answers.publish_and_tell.Goals.{then-pending_len-gt0+in-Ok+in_ok-line+in_ok-push_line, else-pending_len-gt0}
use Rattle.sd_script_audit.proofs.answers.publish_and_tell.Goals as goal

pub returns-clause-printed : goal.returns-clause-printed
returns-clause-printed g c =
    let pending = c.args.writer.now.pending in
    let journal = c.args.writer.now.journal ++ pending in
    let out = c.args.out.now.items in
    let then = c.if-pending_len-gt0 in
    let published : (then.out.items ≡ out ++ printed c.args.style None (last_publish pending (length journal))) × (then.writer.journal ≡ journal) =
    elim then.branch [
      | then-pending_len-gt0+in-Ok+in_ok-line+in_ok-push_line w ↦
          let some = rw (c.pending_len.ensures) at w.if-pending_len-gt0.true in
          let line = w.in_ok-line.ensures ∙ ap (counted_line (form PUBLISHED)) (w.in-Ok.ensures.published.1 ∙ ap length w.in-Ok.ensures.published.0) in (
            ap (λ (o : Vec ℕ). o.items) w.out-is ∙ publishes_some c.args.style pending _ out _ _ some w.in_ok-push_line.ensures line,
            ap (λ (s : StoreState). s.journal) w.writer-is ∙ w.in-Ok.ensures.published.0,
          )
      | else-pending_len-gt0 w ↦
          let none = rw (c.pending_len.ensures) at w.if-pending_len-gt0.false in (
            ap (λ (o : Vec ℕ). o.items) w.out-is ∙ publishes_none c.args.style pending _ out none,
            ap (λ (s : StoreState). s.journal) w.writer-is ∙ none_waits pending _ none,
          )
    ] in
    let told = c.in_ok-line-2.ensures ∙ ap (counted_line (form TOLD)) (c.length.ensures.length ∙ ap length (c.tell-notice.ensures.notice.0 ∙ published.1)) in
    told_after c.args.style pending _ out _ _ _ published.0 c.in_ok-push_line-2.ensures told
