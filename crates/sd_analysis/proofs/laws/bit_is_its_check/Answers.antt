use Rattle.sd_analysis.proofs.BitChecks as checks
use Rattle.sd_analysis.proofs.laws.bit_is_its_check.Goals as goal

pub returns : goal.returns
returns c = checks.bit_is_its_check
