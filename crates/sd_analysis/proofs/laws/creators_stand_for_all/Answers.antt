use Rattle.sd_analysis.proofs.Creators as laws
use Rattle.sd_analysis.proofs.laws.creators_stand_for_all.Goals as goal

pub returns-clause-granted : goal.returns-clause-granted
returns-clause-granted c = laws.creators_stand_for_all

pub returns-clause-each : goal.returns-clause-each
returns-clause-each c = laws.each_has_a_stand_in
