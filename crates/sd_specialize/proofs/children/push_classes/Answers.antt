use Rattle.std.proofs.Common.{ap, ◌∙◌}
use Rattle.sd_specialize.specs.Children.{with_class}
use Rattle.sd_specialize.proofs.Places.{class_more}
use Rattle.sd_specialize.proofs.children.push_classes.Goals as goal

pub loop-entry-preserved : goal.loop-entry-preserved
loop-entry-preserved c =
    class_more c.args.classes.now.items c.args.entries.now c.loop-entry.entry-index c.entry-item.result c.loop-entry.classes.items c.push_class.new.classes.items
    c.loop-entry-test.true c.entry-item.is c.loop-entry.invariant
    (c.in_ok-push_class.ensures ∙ ap (with_class c.loop-entry.classes.items) c.handed_class.ensures)
