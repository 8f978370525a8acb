use Rattle.sd_text.proofs.Cited.{rows, ◌∙◌}
use Rattle.sd_text.proofs.AliasTables.{account_found, no_account_found, needs_a_domain}
use Rattle.sd_text.proofs.cursor.Cursor.domain_alias.Goals as goal

pub returns-in-Some-Some : goal.returns-in-Some-Some
returns-in-Some-Some c = rw (c.in-Some-Some.is-1, c.account.ensures) (account_found (rows c.args.names.now) c.in-Some-Some.domain c.args.self.now.rest.now c.in-Some-Some.relative c.name.new.self.rest.now c.in-Some-Some.ensures.some)

pub returns-in-Some-None : goal.returns-in-Some-None
returns-in-Some-None c = rw c.in-Some-None.is-1 (needs_a_domain (rows c.args.names.now) c.args.self.now.rest.now c.in-Some-None.field-0-0 c.name.new.self.rest.now c.in-Some-None.ensures.some)

pub returns-in-None-default : goal.returns-in-None-default
returns-in-None-default c =
    let none = rw c.in-None-default.is-0 at c.name.ensures.none in
    no_account_found (rows c.args.names.now) c.args.domain c.args.self.now.rest.now none.0 ∙ c.no_alias.ensures
