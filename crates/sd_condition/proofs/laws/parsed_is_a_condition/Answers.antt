-- The law on what is parsed.
use Rattle.sd_condition.proofs.Parsed as parsed
use Rattle.sd_condition.proofs.laws.parsed_is_a_condition.Goals as goal

pub returns : goal.returns
returns c = parsed.parsed_is_a_condition
