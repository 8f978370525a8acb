-- Whom the text means, by what it spells and by what it names.
use Rattle.sd_accounts.specs.Accounts.{rows_of}
use Rattle.sd_named.proofs.Trustees.{of_beside, of_named}
use Rattle.sd_named.proofs.trustee.trustee_of.Goals as goal

pub returns-in-Err : goal.returns-in-Err
returns-in-Err c =
    let named = c.sid_named-named in
    of_named (rows_of c.args.accounts.now) c.args.known c.args.text.now
    (λ sid s. let read = c.in-Err.ensures.spelled sid s in cc (read))
    named.result named.ensures.one named.ensures.unknown named.ensures.ambiguous

pub returns-in-Ok : goal.returns-in-Ok
returns-in-Ok c =
    let named = c.sid_named-named in
    of_beside (rows_of c.args.accounts.now) c.args.known c.args.text.now c.in-Ok.sid c.in-Ok.ensures.value
    named.result c.beside.result named.ensures.one named.ensures.unknown named.ensures.ambiguous c.beside.ensures
