use Rattle.sd_review.proofs.Cited.{Edit, List, None, Some, ap, arith, length, place_before, slice_get, sym, ◌-◌, ◌∙◌, ◌≤◌}
use Rattle.sd_review.proofs.Origins.{walked_one}
use Rattle.sd_review.proofs.origin.origin.Goals as goal

pub loop-at-preserved : goal.loop-at-preserved
loop-at-preserved c =
    let fits = c.loop-at.invariant.1 in (
      walked_one c.args.tree.now.journal c.args.from c.loop-at.at c.edit_at-edit.result.now c.loop-at.place c.args.path.now (Some c.in-Some.before)
          c.loop-at.invariant.0 c.loop-at-test.true (c.edit_at-edit.ensures ∙ ap (λ (edits : List Edit). slice_get edits (c.loop-at.at - 1)) c.journal-journal.ensures.journal)
          (sym c.in-Some.is ∙ c.in_ok-before.ensures),
      omega (arith, fits),
    )

pub returns-in-None : goal.returns-in-None
returns-in-None c =
    walked_one c.args.tree.now.journal c.args.from c.loop-at.at c.edit_at-edit.result.now c.loop-at.place c.args.path.now None c.loop-at.invariant.0
    c.loop-at-test.true (c.edit_at-edit.ensures ∙ ap (λ (edits : List Edit). slice_get edits (c.loop-at.at - 1)) c.journal-journal.ensures.journal)
    (sym c.in-None.is ∙ c.in_ok-before.ensures)
