use Rattle.sd_specialize.proofs.Denies.{deny_never_grants}
use Rattle.sd_specialize.proofs.laws.deny_never_grants.Goals as goal

pub returns : goal.returns
returns c = deny_never_grants
