-- The name, where it means the SID alone.
use Rattle.std.proofs.Common.{sym, ◌∙◌}
use Rattle.sd_accounts.specs.Accounts.{rows_of}
use Rattle.sd_people.proofs.Alone.{alone, not_another, not_nobody}
use Rattle.sd_people.proofs.names.name_alone.Goals as goal

pub returns-then-is-clause-name : goal.returns-then-is-clause-name
returns-then-is-clause-name c =
    alone (rows_of c.args.accounts.now) c.args.known c.args.sid.now c.in_ok-name.name.now (sym c.in_ok-name.ensures) c.in-Ok.one c.in-Ok.ensures
    (sym c.is.ensures ∙ c.if-is.true) (sym c.has_byte.ensures ∙ c.if-has_byte.false)

pub returns-else-is-clause-none : goal.returns-else-is-clause-none
returns-else-is-clause-none c =
    not_another (rows_of c.args.accounts.now) c.args.known c.args.sid.now c.in_ok-name.name.now (sym c.in_ok-name.ensures) c.in-Ok.one c.in-Ok.ensures
    (sym c.is.ensures ∙ c.if-is.false)

pub returns-in-Err-clause-none : goal.returns-in-Err-clause-none
returns-in-Err-clause-none c =
    not_nobody (rows_of c.args.accounts.now) c.args.known c.args.sid.now c.in_ok-name.name.now (sym c.in_ok-name.ensures) c.in-Err.field-0 c.in-Err.ensures
