use Rattle.std.proofs.Common.{◌∙◌, sym, true, false}
use Rattle.sd_line.proofs.RightNames.{row_at}
use Rattle.sd_line.proofs.names.names_among.Goals as goal
use Rattle.sd_line.proofs.names.names_among.Goals.{then-is_due+in_ok-push_word, else-is_due}

pub loop-name-preserved : goal.loop-name-preserved
loop-name-preserved c = elim c.if-is_due.branch [
  | then-is_due+in_ok-push_word w ↦ rw (w.text-is, w.named-is, w.in_ok-push_word.ensures)
      (sym (row_at _ _ _ _ _ _ _ true c.loop-name-test.true (sym c.is_due.ensures ∙ w.if-is_due.true)) ∙ c.loop-name.invariant)
  | else-is_due w ↦ rw (w.text-is, w.named-is)
      (sym (row_at _ _ _ _ _ _ _ false c.loop-name-test.true (sym c.is_due.ensures ∙ w.if-is_due.false)) ∙ c.loop-name.invariant)
]
