use Rattle.sd_commands.proofs.TypesAlike.{types_change_no_child}
use Rattle.sd_commands.proofs.laws.types_change_no_child.Goals as goal

pub returns : goal.returns
returns c = types_change_no_child
