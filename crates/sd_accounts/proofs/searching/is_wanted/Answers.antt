use Rattle.std.proofs.Common.{sym, ◌∙◌}
use Rattle.sd_accounts.proofs.Searched.{found_same, same_found}
use Rattle.sd_accounts.proofs.searching.is_wanted.Goals as goal

pub returns-clause-wanted : goal.returns-clause-wanted
returns-clause-wanted c =
    (λ held. found_same c.args.sid.now c.args.wanted.now.keys (sym c.has_sid.ensures ∙ held), λ at. c.has_sid.ensures ∙ same_found c.args.sid.now c.args.wanted.now.keys at)
