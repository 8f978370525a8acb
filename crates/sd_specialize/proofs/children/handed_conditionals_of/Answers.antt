use Rattle.sd_specialize.specs.Children.{handed_conditional}
use Rattle.sd_specialize.specs.Marked.{lent_marks}
use Rattle.sd_specialize.proofs.Places.{one_found}
use Rattle.sd_specialize.proofs.children.handed_conditionals_of.Goals as goal

pub loop-entry-preserved : goal.loop-entry-preserved
loop-entry-preserved c =
    one_found handed_conditional c.args.entries.now c.loop-entry.entry-index c.entry-item.result (lent_marks c.loop-entry.all.items) (lent_marks c.push_handed.new.all.items)
    c.loop-entry-test.true c.entry-item.is c.loop-entry.invariant c.in_ok-push_handed.ensures
