use Rattle.sd_commands.proofs.Commas.{no_more, some_between}
use Rattle.sd_commands.specs.Mapping.{between_commas}
use Rattle.sd_commands.proofs.mapping.of_texts.Goals as goal

pub returns-in-Some-clause-none : goal.returns-in-Some-clause-none
returns-in-Some-clause-none c = λ g are low.
    let behind = c.in-Some.field-0.1.now in
    no_more _ _ _ _ (between_commas behind) g (some_between behind)
    (rw (c.in_ok-read.ensures.cut, c.in_ok-write.ensures.cut, c.in_ok-execute.ensures.cut, c.in-Some.ensures.cut) at are)
