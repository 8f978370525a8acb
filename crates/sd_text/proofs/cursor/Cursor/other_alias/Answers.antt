use Rattle.sd_text.proofs.Cited.{domain_alias, domain_aliases, later_aliases, rows, sym}
use Rattle.sd_text.proofs.AliasTables.{alias_found, no_alias_found}
use Rattle.sd_text.proofs.cursor.Cursor.other_alias.Goals as goal

pub returns-in-Some : goal.returns-in-Some
returns-in-Some c = rw c.sid.ensures (alias_found (rows c.later_aliases.result.now) (later_aliases c.args.known.later) c.later_aliases.ensures (domain_alias (domain_aliases c.args.known.later) c.args.known.domain) c.args.self.now.rest.now c.in-Some.alias c.name.new.self.rest.now c.in-Some.ensures.some)

pub returns-in-None : goal.returns-in-None
returns-in-None c =
    let stays = c.in-None.ensures.none in
    rw (no_alias_found (rows c.later_aliases.result.now) (later_aliases c.args.known.later) c.later_aliases.ensures (domain_alias (domain_aliases c.args.known.later) c.args.known.domain) c.args.self.now.rest.now stays.0, sym stays.1, sym c.domain_aliases.ensures) c.domain_alias.ensures
