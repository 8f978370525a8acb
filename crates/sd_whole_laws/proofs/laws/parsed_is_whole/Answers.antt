use Rattle.sd_whole_laws.proofs.OfBytes as of_bytes
use Rattle.sd_whole_laws.proofs.laws.parsed_is_whole.Goals as goal

pub returns : goal.returns
returns c = of_bytes.parsed_is_whole
