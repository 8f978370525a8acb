-- The flag is the third place.
use Rattle.std.proofs.Common.{◌∙◌, ap}
use Rattle.sd_sid.proofs.Masks.{flag_test}
use Rattle.sd_acl.specs.Ace.{is_inherit_only}
use Rattle.sd_acl.proofs.lent.AceRef.is_inherit_only.Goals as goal

pub returns : goal.returns
returns c = c.contains.ensures tt ∙ flag_test c.self.inside.flags.0 3 ∙ ap is_inherit_only c.self.view_is
