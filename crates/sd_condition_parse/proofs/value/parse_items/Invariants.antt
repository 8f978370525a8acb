-- The values so far.
use Rattle.sd_condition_parse.proofs.Cited.{[], item_step, length}
use Rattle.sd_condition_parse.proofs.Repeated.{Left}
use Rattle.sd_condition_parse.proofs.value.parse_items.Given as goal

abbrev pub invariant-items : goal.invariant-items
invariant-items l = Left (item_step l.kind l.known) [] l.fn.cursor.rest.now l.values.items l.cursor.rest.now

abbrev pub decreases-items : goal.decreases-items
decreases-items l = length l.cursor.rest.now
