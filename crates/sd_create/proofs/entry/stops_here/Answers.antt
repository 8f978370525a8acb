-- The flag is the third place.
use Rattle.std.proofs.Common.{◌∙◌}
use Rattle.sd_sid.proofs.Masks.{flag_test}
use Rattle.sd_create.proofs.entry.stops_here.Goals as goal

pub returns : goal.returns
returns c = c.contains.ensures tt ∙ flag_test c.args.flags.0 2
