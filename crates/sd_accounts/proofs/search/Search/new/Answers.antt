use Rattle.std.proofs.Common.{subst, ◌⊎◌}
use Rattle.std.specs.List.{Contains}
use Rattle.sd_accounts.proofs.Searched.{added_to_none}
use Rattle.sd_accounts.proofs.search.Search.new.Goals as goal

pub returns-clause-sound : goal.returns-clause-sound
returns-clause-sound c = λ sid at. added_to_none c.args.sids.now sid (subst (λ keys. Contains keys sid ⊎ Contains c.args.sids.now sid) c.new-wanted.ensures.empty (c.add_all.ensures.sound sid at))
