-- The units so far.
use Rattle.sd_condition_parse.proofs.Cited.{[], length, unit_step}
use Rattle.sd_condition_parse.proofs.Repeated.{Left}
use Rattle.sd_condition_parse.proofs.attribute.parse_units.Given as goal

abbrev pub invariant-units : goal.invariant-units
invariant-units l = Left unit_step [] l.fn.cursor.rest.now l.units.items l.cursor.rest.now

abbrev pub decreases-units : goal.decreases-units
decreases-units l = length l.cursor.rest.now
