-- The node's entries before are those in the tree of all edits that were accepted until then.
use Rattle.sd_script_audit.proofs.Cited.{IfOk-weaker, IsMoved, entries_at, machine_of, refl, subst, sym, ◌∙◌, ◌≡◌}
use Rattle.sd_script_audit.proofs.queries.moved.Goals as goal

pub returns : goal.returns
returns g c = λ readers.
    let old = machine_of g.J.StoreId.opening readers c.args.writer.now in
    let new = machine_of g.J.StoreId.opening readers c.edit_reply-reply.new.writer in
    let same : c.deref.result.now ≡ entries_at old c.args.source.now =
    c.deref.ensures.value ∙ c.in_ok-before.ensures ∙ (rw (c.draft.ensures.opening, c.draft.ensures.journal) refl) in
    IfOk-weaker c.move_answer.result _ _ (λ answer said. (
      c.edit_reply-reply.result,
      c.edit_reply-reply.ensures readers,
      subst (λ before. IsMoved before new c.args.target.now c.edit_reply-reply.result answer.items) same said,
    )) (c.move_answer.ensures new (sym c.draft-2.ensures.opening) (sym c.draft-2.ensures.journal))
