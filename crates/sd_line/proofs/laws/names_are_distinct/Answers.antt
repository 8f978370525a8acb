use Rattle.std.proofs.Common.{refl}
use Rattle.sd_line.proofs.laws.names_are_distinct.Goals as goal

pub returns : goal.returns
unfolding Rattle.sd_line.specs.Names.long_names Rattle.sd_line.specs.Names.short_names Rattle.sd_line.specs.Names.rights
returns c = refl
