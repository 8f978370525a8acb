-- Why the user can't be named.
use Rattle.sd_named.proofs.arguments.Naming.of_user.Goals as goal

pub returns-in-Err-clause-none : goal.returns-in-Err-clause-none
returns-in-Err-clause-none c = c.in-Err.ensures.none c.args.words.now
