-- What is spelled is no name, and what isn't the name of one account neither.
use Rattle.sd_accounts.specs.Accounts.{rows_of}
use Rattle.sd_named.proofs.Fields.{not_one}
use Rattle.sd_named.proofs.sddl.named_sid.Goals as goal

pub returns-in-Ok-clause-none : goal.returns-in-Ok-clause-none
returns-in-Ok-clause-none c = λ sid is. is.0 c.in-Ok.field-0 c.in-Ok.ensures.value

pub returns-in-Ok-sid_named-clause-named : goal.returns-in-Ok-sid_named-clause-named
returns-in-Ok-sid_named-clause-named c = (λ one s. let read = c.in-Err.ensures.spelled one s in cc (read), c.in-Ok-sid_named.ensures.one)

pub returns-in-Err-sid_named-clause-none : goal.returns-in-Err-sid_named-clause-none
returns-in-Err-sid_named-clause-none c = λ sid is.
    not_one (rows_of c.args.accounts.now) c.args.text.now c.sid_named.result c.in-Err-sid_named.field-0 c.in-Err-sid_named.is c.sid_named.ensures.unknown
    c.sid_named.ensures.ambiguous sid is.1
