use Rattle.std.proofs.Common.{◌∙◌}
use Rattle.sd_accounts.proofs.Searched.{any_same}
use Rattle.sd_accounts.proofs.searching.has_sid.Goals as goal

pub returns : goal.returns
returns c = c.contains.ensures ∙ any_same c.args.sid.now c.args.set.now.keys
