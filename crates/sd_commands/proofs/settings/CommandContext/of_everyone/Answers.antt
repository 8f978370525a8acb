use Rattle.sd_commands.proofs.Cited.{IfOk-weaker}
use Rattle.sd_commands.proofs.Everyone.{of_text}
use Rattle.sd_commands.proofs.settings.CommandContext.of_everyone.Goals as goal

pub returns-in-Ok : goal.returns-in-Ok
returns-in-Ok c = IfOk-weaker c.for_everyone.result _ _
    (of_text c.args.name.now c.args.what.now c.args.before.now c.args.self.now.settings.now c.args.sddl.now c.in-Ok.descriptor c.in-Ok.ensures.exact)
    c.for_everyone.ensures
