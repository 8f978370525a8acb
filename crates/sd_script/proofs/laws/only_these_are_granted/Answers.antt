use Rattle.sd_script.proofs.OnlyThese as laws
use Rattle.sd_script.proofs.laws.only_these_are_granted.Goals as goal

pub returns : goal.returns
returns c = laws.only_these_are_granted
