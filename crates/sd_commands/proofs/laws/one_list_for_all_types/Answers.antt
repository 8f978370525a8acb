use Rattle.sd_commands.proofs.TypesAlike.{one_list_for_all_types}
use Rattle.sd_commands.proofs.laws.one_list_for_all_types.Goals as goal

pub returns : goal.returns
returns c = one_list_for_all_types
