use Rattle.std.proofs.Common.{◌∙◌}
use Rattle.std.proofs.lemmas.Result.{err_from_is_err_and}
use Rattle.sd_store_example.proofs.Steps.{waits_still, accepted_still, not_accepted}
use Rattle.sd_store_example.proofs.asking.asked.Goals as goal

pub returns-in_err-edit-clause-failed : goal.returns-in_err-edit-clause-failed
returns-in_err-edit-clause-failed g c =
    let p = err_from_is_err_and c.from_residual.result c.from_residual.ensures.1 in
    let at = c.loop-edit in
    let kept = at.invariant in
    rw (p.1, p.2)
    (not_accepted g.J.StoreId.opening c.args.edits.now at.edit-index c.edit-item.result c.loop-edit-test.true
    c.edit-item.is at.writer.journal at.writer.pending kept.0 kept.1 kept.2
    c.in_err-edit.field-0.0 c.in_err-edit.ensures.refused)

pub loop-edit-preserved : goal.loop-edit-preserved
loop-edit-preserved g c =
    let at = c.loop-edit in
    let kept = at.invariant in
    let waits = waits_still g.J.StoreId.opening c.args.edits.now at.edit-index c.edit-item.result c.loop-edit-test.true
    c.edit-item.is at.writer.journal at.writer.pending kept.0 kept.1 kept.2 in
    let fits = accepted_still g.J.StoreId.opening c.args.edits.now at.edit-index c.edit-item.result c.loop-edit-test.true
    c.edit-item.is at.writer.journal at.writer.pending kept.0 kept.1 kept.2 c.in_ok-edit.ensures.accepted in
    (c.edit.ensures.published.0 ∙ kept.0, c.in_ok-edit.ensures.pending ∙ waits, fits)
