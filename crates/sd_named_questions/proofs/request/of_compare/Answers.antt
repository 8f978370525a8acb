-- After a pair all arguments are groups.
use Rattle.sd_named_questions.proofs.request.of_compare.Goals as goal

pub returns-then-pairs : goal.returns-then-pairs
returns-then-pairs c = rw c.if-pairs.true c.of_words.ensures.named
