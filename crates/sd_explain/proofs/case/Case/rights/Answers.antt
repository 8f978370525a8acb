use Rattle.std.proofs.Common.{◌∙◌, ap}
use Rattle.sd_check.specs.Fold.{rights_in}
use Rattle.sd_explain.proofs.case.Case.rights.Goals as goal

pub returns : goal.returns
returns c = c.common.ensures ∙ ap rights_in c.wanted_bits.ensures
