-- The descendant whose lists differ.
use Rattle.sd_analysis.specs.declared.descendants.Descendant.TheVariants.{Container, ContainerBelow, ObjectBelow}
use Rattle.sd_analysis.proofs.effect.differ_below.Goals as goal

pub returns-then-branch-2-clause-yes : goal.returns-then-branch-2-clause-yes
returns-then-branch-2-clause-yes c = λ is. (Container, c.in_ok-differs-2.ensures.yes c.if-branch-2.true)

pub returns-then-branch-3-clause-yes : goal.returns-then-branch-3-clause-yes
returns-then-branch-3-clause-yes c = λ is. (ObjectBelow, c.in_ok-differs-3.ensures.yes c.if-branch-3.true)

pub returns-then-branch-4-clause-yes : goal.returns-then-branch-4-clause-yes
returns-then-branch-4-clause-yes c = λ is. (ContainerBelow, c.in_ok-differs-4.ensures.yes c.if-branch-4.true)
