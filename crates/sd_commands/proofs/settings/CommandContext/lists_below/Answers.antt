use Rattle.sd_commands.proofs.Cited.{ap, map, take_all, ◌∙◌}
use Rattle.sd_commands.specs.Handed.{children_of, handed_to}
use Rattle.sd_specialize.specs.Marked.{lent_marks}
use Rattle.sd_commands.proofs.settings.CommandContext.lists_below.Goals as goal

pub returns : goal.returns
returns c =
    c.loop-children.invariant
    ∙ ap (map (handed_to c.args.self.now.settings.now (lent_marks c.args.marks.now) c.args.old.now c.args.new.now))
    (take_all _ _ c.loop-children-test.false ∙ c.deref-children-items.ensures.value ∙ c.in_ok-all.ensures
    ∙ ap children_of (c.deref.ensures.value ∙ c.in_ok-classes.ensures))
