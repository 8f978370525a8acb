use Rattle.sd_text.proofs.Cited.{aliases, other_alias, rows, sym}
use Rattle.sd_text.proofs.AliasTables.{alias_found, no_alias_found, known_placed}
use Rattle.sd_text.proofs.cursor.Cursor.alias.Goals as goal

pub name_of_two-requires : goal.name_of_two-requires
name_of_two-requires c = known_placed c.alias_places.result.now (rows c.known_aliases.result.now) c.known_aliases.ensures c.alias_places.ensures

pub returns-in-Some : goal.returns-in-Some
returns-in-Some c = rw c.sid.ensures (alias_found (rows c.known_aliases.result.now) aliases c.known_aliases.ensures (other_alias c.args.known) c.args.self.now.rest.now c.in-Some.alias c.name_of_two.new.self.rest.now c.in-Some.ensures.some)

pub returns-in-None : goal.returns-in-None
returns-in-None c =
    let stays = c.in-None.ensures.none in
    rw (no_alias_found (rows c.known_aliases.result.now) aliases c.known_aliases.ensures (other_alias c.args.known) c.args.self.now.rest.now stays.0, sym stays.1) c.other_alias.ensures
