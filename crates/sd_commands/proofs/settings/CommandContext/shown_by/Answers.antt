use Rattle.sd_commands.proofs.Cited.{IfOk-weaker, sym, ◌∙◌}
use Rattle.sd_commands.proofs.Marks.{where_marked}
use Rattle.sd_commands.proofs.settings.CommandContext.shown_by.Goals as goal

pub returns : goal.returns
returns c = IfOk-weaker c.shown_lines.result _ _
    (λ shown is. is ∙ sym (where_marked c.args.self.now.settings.now c.args.marks.now c.args.lines.items (sym c.is_empty.ensures ∙ c.if-is_empty.false)))
    c.shown_lines.ensures
