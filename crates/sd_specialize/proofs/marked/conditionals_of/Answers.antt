use Rattle.sd_specialize.specs.Marked.{lent_marks}
use Rattle.sd_specialize.proofs.Places.{one_more}
use Rattle.sd_specialize.proofs.marked.conditionals_of.Goals as goal

pub loop-entry-preserved : goal.loop-entry-preserved
loop-entry-preserved c =
    one_more c.args.entries.now c.loop-entry.entry-index c.entry-item.result (lent_marks c.loop-entry.all.items) (lent_marks c.push_conditional.new.all.items)
    c.loop-entry-test.true c.entry-item.is c.loop-entry.invariant c.in_ok-push_conditional.ensures
