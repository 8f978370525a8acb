-- Each SID is there once; and why the user has no token.
use Rattle.std.proofs.Common.{[]}
use Rattle.sd_accounts.specs.Accounts.{rows_of}
use Rattle.sd_named.proofs.Once.{token_once}
use Rattle.sd_named.proofs.arguments.Naming.sids_of_user.Goals as goal

pub returns-in_ok-token_sids-in-Ok-clause-once : goal.returns-in_ok-token_sids-in-Ok-clause-once
returns-in_ok-token_sids-in-Ok-clause-once c =
    token_once (rows_of c.args.self.now.accounts.now) c.in-Ok.sid c.in_ok-token_sids-in-Ok.field-0.items c.in_ok-token_sids-in-Ok.ensures

pub returns-in-Err-clause-none : goal.returns-in-Err-clause-none
returns-in-Err-clause-none c = c.in-Err.ensures.none []
