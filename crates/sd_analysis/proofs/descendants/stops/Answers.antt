-- The flag is the third place.
use Rattle.sd_analysis.proofs.Cited.{flag_test, ◌∙◌}
use Rattle.sd_analysis.proofs.descendants.stops.Goals as goal

pub returns : goal.returns
returns c = c.contains.ensures tt ∙ flag_test c.args.entry.now.flags.0 2
