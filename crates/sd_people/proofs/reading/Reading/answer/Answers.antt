-- What is asked for is what the mask requests.
use Rattle.std.proofs.Common.{rules}
use Rattle.sd_people.proofs.reading.Reading.answer.Goals as goal

pub returns : goal.returns
returns c = rw (← c.requested-asked.ensures) (search rules)
