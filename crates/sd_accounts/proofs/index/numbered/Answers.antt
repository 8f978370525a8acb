use Rattle.std.proofs.Common.{ap, sym, ◌∙◌}
use Rattle.sd_accounts.specs.Index.{kept}
use Rattle.sd_accounts.proofs.Indexed.{numbers_found}
use Rattle.sd_accounts.proofs.index.numbered.Goals as goal

pub returns-clause-groups : goal.returns-clause-groups
returns-clause-groups c = c.deref.ensures.value ∙ ap kept (sym c.in_ok-sid.ensures.value) ∙ numbers_found c.args.index.now c.in_ok-sid.sid.now
