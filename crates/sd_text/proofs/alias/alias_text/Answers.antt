use Rattle.sd_text.proofs.Cited.{One, [], arith, sym}
use Rattle.sd_text.proofs.Placed.{alias_at_its_place, no_alias_at}
use Rattle.sd_text.proofs.alias.alias_text.Goals as goal

pub returns-then-place-aliases : goal.returns-then-place-aliases
returns-then-place-aliases c = sym (no_alias_at c.sid_places.result.now c.known_aliases-aliases.result.now c.args.sid.now c.known_aliases-aliases.ensures c.sid_places.ensures c.from-place.result (rw (sym c.sid_slot.ensures.number) c.from-place.ensures) (omega arith))

pub returns-then-is : goal.returns-then-is
returns-then-is c =
    let there = alias_at_its_place c.sid_places.result.now c.known_aliases-aliases.result.now c.args.sid.now c.known_aliases-aliases.ensures c.sid_places.ensures c.from-place.result (record { ref_ptr = (0, 0); now = [] }, One 0 0) (rw (sym c.sid_slot.ensures.number) c.from-place.ensures) (omega arith) in
    sym (rw (sym c.if-is.ensures) at there)

pub returns-else-is : goal.returns-else-is
returns-else-is c =
    let there = alias_at_its_place c.sid_places.result.now c.known_aliases-aliases.result.now c.args.sid.now c.known_aliases-aliases.ensures c.sid_places.ensures c.from-place.result (record { ref_ptr = (0, 0); now = [] }, One 0 0) (rw (sym c.sid_slot.ensures.number) c.from-place.ensures) (omega arith) in
    sym (rw (sym c.if-is.ensures) at there)
