use Rattle.sd_text.proofs.Cited.{arith, refl, rows, sym}
use Rattle.sd_text.proofs.Placed.{at_its_place, no_place, too_short}
use Rattle.sd_text.proofs.cursor.Cursor.name_of_two.Goals as goal

pub returns-then-self-lt2-clause-none : goal.returns-then-self-lt2-clause-none
returns-then-self-lt2-clause-none g c = (too_short c.args.places.now 0 (rows c.args.names.now) c.args.self.now.rest.now c.requires (omega arith), refl)

pub returns-then-place-names-clause-none : goal.returns-then-place-names-clause-none
returns-then-place-names-clause-none g c = (no_place c.args.places.now c.args.names.now c.args.self.now.rest.now c.requires c.from-place.result (rw (sym c.slot.ensures.number) c.from-place.ensures) (omega arith), refl)

pub returns-then-eat-clause-some : goal.returns-then-eat-clause-some
returns-then-eat-clause-some g c =
    let there = at_its_place c.args.places.now c.args.names.now c.args.self.now.rest.now c.requires c.from-place.result c.index-names-place.result (rw (sym c.slot.ensures.number) c.from-place.ensures) (omega arith) c.index-names-place.is in
    rw (sym c.as_bytes.ensures.value, sym c.if-eat.ensures.stood, sym c.if-eat.ensures.rest) at there

pub returns-else-eat-clause-none : goal.returns-else-eat-clause-none
returns-else-eat-clause-none g c =
    let there = at_its_place c.args.places.now c.args.names.now c.args.self.now.rest.now c.requires c.from-place.result c.index-names-place.result (rw (sym c.slot.ensures.number) c.from-place.ensures) (omega arith) c.index-names-place.is in
    (rw (sym c.as_bytes.ensures.value, sym c.if-eat.ensures.stood) at there, c.if-eat.ensures.rest)
