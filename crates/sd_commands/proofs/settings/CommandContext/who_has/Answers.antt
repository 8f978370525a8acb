use Rattle.sd_commands.proofs.Cited.{IfOk-weaker, answer_of, descriptor_of, subst, sym, ◌∙◌}
use Rattle.sd_specialize.specs.Marked.{lent_marks}
use Rattle.sd_commands.specs.Answer.{AreDoneBut}
use Rattle.sd_commands.proofs.Marks.{printed}
use Rattle.sd_commands.proofs.settings.CommandContext.who_has.Goals as goal

pub returns : goal.returns
returns c = IfOk-weaker c.done_but.result _ _
    (λ answer is. printed c.args.self.now.settings.now (lent_marks c.args.marks.now) c.args.left_out.items c.args.asked (descriptor_of c.args.descriptor.now)
    c.args.groups.now (answer_of answer) c.in_ok-lines.lines.items (sym c.hides.ensures ∙ c.if-hides.false) c.in_ok-lines.ensures
    (subst (λ lines. AreDoneBut c.args.left_out.items lines (answer_of answer)) c.in_ok-lines-2.ensures is))
    c.done_but.ensures
