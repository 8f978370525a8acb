-- The flag is the fifth place.
use Rattle.std.proofs.Common.{◌∙◌}
use Rattle.sd_sid.proofs.Masks.{flag_test}
use Rattle.sd_create.proofs.entry.was_inherited.Goals as goal

pub returns : goal.returns
returns c = c.contains.ensures tt ∙ flag_test c.args.flags.0 4
