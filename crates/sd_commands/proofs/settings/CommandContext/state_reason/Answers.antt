use Rattle.sd_commands.proofs.settings.CommandContext.state_reason.Goals as goal

pub returns : goal.returns
returns c = rw c.sid_of.ensures at c.sid_reason.ensures
