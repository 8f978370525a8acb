-- The words so far.
use Rattle.sd_condition_parse.proofs.Cited.{length, start, step}
use Rattle.sd_condition_parse.proofs.Repeated.{Left}
use Rattle.sd_condition_parse.proofs.condition.parse_words.Given as goal

abbrev pub invariant-words : goal.invariant-words
invariant-words l = Left (step l.known) start l.initial.cursor.rest.now l.state l.cursor.rest.now

abbrev pub decreases-words : goal.decreases-words
decreases-words l = length l.cursor.rest.now
