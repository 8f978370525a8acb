use Rattle.sd_analysis.proofs.Suffices as laws
use Rattle.sd_analysis.proofs.witness.two_sids_per_pass_suffice.Goals as goal

pub returns-clause-suffice : goal.returns-clause-suffice
returns-clause-suffice c = laws.two_sids_per_pass_suffice
