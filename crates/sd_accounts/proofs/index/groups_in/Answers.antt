use Rattle.std.proofs.Common.{ap, ◌∙◌}
use Rattle.sd_accounts.specs.Index.{kept}
use Rattle.sd_accounts.proofs.Indexed.{numbers_found}
use Rattle.sd_accounts.proofs.index.groups_in.Goals as goal

pub returns-in-Some : goal.returns-in-Some
returns-in-Some c = c.deref.ensures.value ∙ ap kept c.in-Some.ensures.value ∙ numbers_found c.args.index.now c.args.member.now

pub returns-in-None : goal.returns-in-None
returns-in-None c = ap kept c.in-None.ensures.value ∙ numbers_found c.args.index.now c.args.member.now
