use Rattle.sd_script.proofs.NoId as laws
use Rattle.sd_script.proofs.laws.no_command_without_an_id.Goals as goal

pub returns : goal.returns
returns c = laws.no_command_without_an_id
